-- "Answers are cut at the allocation, while inner lengths stay true": what holds of cutting, once for all pages of MODE SENSE. Assumes nothing.
use Rattle.std.specs.Prelude.{ℕ, ◌+◌, ◌≤◌, min, ◌≡◌, List, [], ◌∷◌, ◌++◌, length, take, drop, eqb}
use Rattle.rules.specs.Choice.{when}
use Rattle.rules.specs.Bytes.{byte}
use Rattle.rules.specs.Tables.{Tables}
use Rattle.rules.specs.Operation.{MODE-SENSE}
use Rattle.rules.specs.Order.{Outcome, GOOD}
use Rattle.rules.specs.Mode.{ADDRESSES, GEOMETRY, CAPABILITIES, ALL-PAGES, page_code, mode_whole}
use Rattle.rules.specs.Command.{Request, Command, serve}

-- the pages that a page code asks for: "3Fh for all", which "goes by rising page code"
unfoldable pub codes_of : ℕ → List ℕ
codes_of code = when (eqb code ALL-PAGES) (ADDRESSES ∷ GEOMETRY ∷ CAPABILITIES ∷ []) (code ∷ [])

-- bytes that are pages of these codes and nothing else, told by their own lengths: each begins with its code and with the number of bytes that follow
-- in it; behind these begins the next, and behind the last is the end
abbrev pub ArePages : List ℕ → List ℕ → Type 0
ArePages [] bytes = bytes ≡ []
ArePages (c ∷ cs) bytes = (byte bytes 0 ≡ c) × (2 + byte bytes 1 ≤ length bytes) × ArePages cs (drop (2 + byte bytes 1) bytes)

-- the answer before cutting
abbrev pub uncut : Tables → Request → List ℕ
uncut t r = mode_whole t.head (page_code r.block)

pub record CutAlone (t : Tables) (r : Request) (o : Outcome) : Type 0 where
  -- the buffer begins with the first min(allocation, n) bytes of the answer, n being its length, and is as it was behind them
  pub count-is : o.count ≡ min (byte r.block 4) (length (uncut t r))
  pub buffer-is : o.buffer ≡ take o.count (uncut t r) ++ drop o.count r.buffer
  -- whatever the allocation, the mode data length is n - 1 and each page's own length is true
  pub in-a-byte : length (uncut t r) ≤ 256
  pub data-length : byte (uncut t r) 0 + 1 ≡ length (uncut t r)
  pub page-lengths : ArePages (codes_of (page_code r.block)) (drop 4 (uncut t r))

abbrev pub CutOnce : Type 0
CutOnce =
    (t : Tables) (r : Request) → byte r.block 0 ≡ MODE-SENSE → (serve t (Command r)).number ≡ 0 → (serve t (Command r)).status ≡ GOOD
    → CutAlone t r (serve t (Command r))
