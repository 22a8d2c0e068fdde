-- The places that a reading names lie in the line, and its count in the buffer. Assumes nothing.
use Prim.Native.Nat.{ℕ, ◌≤◌}
use native.Mathlib.Omega.{arith}
use mathlib.Core.Path.{◌≡◌, sym, ap, ◌∙◌}
use mathlib.Core.List.{List}
use lib.ListN.{length, take, length-take}
use Rattle.rules.proofs.Ladder.{on}
use Rattle.std.specs.Prelude.{Option, Some, None, Result, Ok, Err}
use Rattle.case_text.specs.declared.fault.Fault.{Fault as TextFault}
use Rattle.case_text.specs.declared.fault.Stop.{Stop as TextStop}
use Rattle.case_text.specs.declared.Sought.TheVariants.{Gap, Word}
use Rattle.case_script.specs.declared.Line.{Line}
use Rattle.case_script.specs.declared.shape.Shape.{Shape}
use Rattle.case_script.specs.declared.shape.Shape.TheVariants as shape
use Rattle.case_script.specs.declared.word.Word.{Word as WordOf}
use Rattle.case_text.specs.Text.{comment_at, word_start, word_end, word_at}
use Rattle.case_text.specs.Numbers.{number_of}
use Rattle.case_text.specs.Bytes.{Given, given}
use Rattle.case_text.specs.Letters.{written}
use Rattle.case_text.proofs.Searching.{first-within}
use Rattle.case_text.proofs.Buffers.{Fits, given-fits, written-fits}
use Rattle.case_script.specs.Names.{code_of, shape_of}
use Rattle.case_script.specs.Lines.{Saying, Reading, finished, named, name_read, tabled, tables_read, took, taken_at, after_number, one_number, second_number, two_numbers, Read}
use Rattle.case_script.specs.Lines.{counted, filled, many_bytes, behind_blank, log_read, exactly, and_then, bytes_after, number_and_bytes, shaped, rest, after_set, set_read}
use Rattle.case_script.specs.Lines.{by_word, from_word, word_read, some, text_read, uncommented_of, uncommented_read, line_read, Inside}

-- a word whose place is in a text of n bytes
abbrev Placed : ℕ → Line → Type 0
Placed n l = (l.from ≤ l.to) × (l.to ≤ n)

module _ (s : List ℕ) (m : ℕ) where
  abbrev In : Saying → Type 0
  In r = Inside (length s) m (some r)

  finished-in : (at : ℕ) (l : Line) (a b : ℕ) → at ≤ length s → Placed (length s) l → In (finished s at l a b)
  unfolding finished
  finished-in at l a b h p = on In _ (λ _. (first-within Word s at h).1) (λ _. (p.0, p.1, omega arith))

  -- the next word from a place of the text on
  starts-in : (at : ℕ) → at ≤ length s → word_start s at ≤ length s
  starts-in at h = (first-within Word s at h).1

  ends-in : (at : ℕ) → at ≤ length s → (word_start s at ≤ word_end s (word_start s at)) × (word_end s (word_start s at) ≤ length s)
  ends-in at h = first-within Gap s (word_start s at) (starts-in at h)

  name_in : (l : Line) → Placed (length s) l → In (name_read s l)
  unfolding name_read named
  name_in l p = on In _ (λ _. starts-in _ p.1) (λ _. finished-in _ _ 0 0 (ends-in _ p.1).1 (ends-in _ p.1))

  tables-in : (l : Line) → Placed (length s) l → In (tables_read s l)
  unfolding tables_read tabled
  tables-in l p =
      on In _ (λ _. starts-in _ p.1)
      (λ _. on In _ (λ _. finished-in _ _ 0 0 (ends-in _ p.1).1 p)
      (λ _. on In _ (λ _. finished-in _ _ 0 0 (ends-in _ p.1).1 p) (λ _. starts-in _ p.1)))

  after-in : (at : ℕ) → at ≤ length s → (f : ℕ → ℕ → Saying) → ((n next : ℕ) → next ≤ length s → In (f n next)) → In (after_number (taken_at s at) f)
  unfolding taken_at
  after-in at h f g = go (number_of (word_at s at))
    where
      go : (x : Result ℕ TextFault) → In (after_number (took (word_start s at) (word_end s (word_start s at)) x) f)
      go (Ok n) = g n _ (ends-in at h).1
      go (Err why) = starts-in at h

  one_in : (l : Line) → Placed (length s) l → In (one_number s l)
  unfolding one_number
  one_in l p = after-in _ p.1 _ (λ n next h. finished-in next l n 0 h p)

  two_in : (l : Line) → Placed (length s) l → In (two_numbers s l)
  unfolding two_numbers second_number
  two_in l p = after-in _ p.1 _ (λ n next h. after-in next h _ (λ k last j. finished-in last l n k j p))

-- ---- with a buffer

module _ (s buffer : List ℕ) where
  abbrev Out : Read Saying → Type 0
  Out o = Inside (length s) (length buffer) (some o.reading)

  filled_in : (g : Given) → Fits (length buffer) (length s) g.told → (l : Line) (a : ℕ) → Placed (length s) l → Out (filled l a buffer g)
  filled_in g f l a p = go g.told f
    where
      go : (t : Result ℕ TextStop) → Fits (length buffer) (length s) t → Inside (length s) (length buffer) (some (counted l a t))
      go (Ok n) h = (p.0, p.1, h)
      go (Err stop) h = h

  many-in : (at : ℕ) (l : Line) (a : ℕ) → Placed (length s) l → Out (many_bytes s at l a buffer)
  unfolding many_bytes
  many-in at = filled_in (given (length buffer) s at) (given-fits (length buffer) s at)

  log-in : (l : Line) → Placed (length s) l → Out (log_read s l buffer)
  unfolding log_read
  log-in l = filled_in (written (length buffer) s (behind_blank s l.to)) (written-fits (length buffer) s _) l 0

  exactly-in : (shape : Shape) (r : Saying) → Inside (length s) (length buffer) (some r) → Inside (length s) (length buffer) (some (and_then r (exactly shape)))
  unfolding exactly
  exactly-in shape (Ok l) h = on (λ (r : Saying). Inside (length s) (length buffer) (some r)) _ (λ _. omega arith) (λ _. h)
  exactly-in shape (Err stop) h = h

  number-bytes-in : (shape : Shape) (l : Line) → Placed (length s) l → Out (number_and_bytes s shape l buffer)
  unfolding number_and_bytes taken_at
  number-bytes-in shape l p = go (number_of (word_at s l.to))
    where
      go : (x : Result ℕ TextFault) → Out (bytes_after s shape l buffer (took (word_start s l.to) (word_end s (word_start s l.to)) x))
      go (Ok n) = exactly-in shape _ (many-in _ l n p)
      go (Err why) = starts-in s (length buffer) l.to p.1

  rest_in : (l : Line) → Placed (length s) l → Out (rest s l buffer)
  unfolding rest
  rest_in l p = go (shape_of l.word)
    where
      go : (x : Shape) → Out (shaped s x l buffer)
      go shape.Name = name_in s _ l p
      go shape.Tables = tables-in s _ l p
      go shape.Nothing = finished-in s _ l.to l 0 0 p.1 p
      go shape.One = one_in s _ l p
      go shape.Two = two_in s _ l p
      go shape.Bytes = many-in l.to l 0 p
      go shape.Text = log-in l p
      go shape.NumberAndBytes = number-bytes-in shape.NumberAndBytes l p
      go shape.NumberAndTwoBytes = number-bytes-in shape.NumberAndTwoBytes l p
      go shape.NumberAndThreeBytes = number-bytes-in shape.NumberAndThreeBytes l p

  set-in : (at : ℕ) → at ≤ length s → Out (set_read s at buffer)
  unfolding set_read
  set-in at h = go (code_of _)
    where
      go : (w : Option WordOf) → Out (after_set s (word_start s at) (word_end s (word_start s at)) buffer w)
      go None = starts-in s (length buffer) at h
      go (Some word) = on Out _ (λ _. rest_in _ (ends-in s (length buffer) at h)) (λ _. starts-in s (length buffer) at h)

  word-in : (from : ℕ) → from ≤ length s → Out (word_read s from buffer)
  unfolding from_word
  word-in from h = on Out _ (λ _. set-in _ (first-within Gap s from h).1) (λ _. go (code_of _))
    where
      go : (w : Option WordOf) → Out (by_word s from (word_end s from) buffer w)
      go None = h
      go (Some word) = rest_in _ (first-within Gap s from h)

  text_in : Inside (length s) (length buffer) (text_read s buffer).reading
  unfolding text_read
  text_in =
      on (λ (o : Read Reading). Inside (length s) (length buffer) o.reading) _ (λ _. tt)
      (λ _. word-in _ (starts-in s (length buffer) 0 (omega arith)))

-- ---- the whole line is at least as long as the text before its comment

wider : (n k m : ℕ) (r : Reading) → n ≤ k → Inside n m r → Inside k m r
wider n k m (Ok None) h w = tt
wider n k m (Ok (Some l)) h w = (w.0, omega arith, w.2)
wider n k m (Err stop) h w = omega arith

uncommented-in : (n m end : ℕ) (r : Reading) → end ≤ n → Inside n m r → Inside n m (uncommented_of end n r)
uncommented-in n m end (Ok None) h w = w
uncommented-in n m end (Ok (Some l)) h w = on (Inside n m) _ (λ _. on (Inside n m) _ (λ _. h) (λ _. w)) (λ _. w)
uncommented-in n m end (Err stop) h w = w

module _ (line buffer : List ℕ) (end : ℕ) (ends : end ≡ comment_at line) (fits : end ≤ length line) (q : Reading) (l : List ℕ)
    (is : record { reading = q; bytes = l } ≡ text_read (take end line) buffer) (p : Reading) (was : q ≡ p) (r : Reading) (held : r ≡ uncommented_of end (length line) p) where
  pub line-is : record { reading = r; bytes = l } ≡ line_read line buffer
  unfolding line_read uncommented_read
  line-is = rw (sym ends) (rw (sym is, held, was))

  pub line-inside : Inside (length line) (length buffer) r
  line-inside =
      let read : p ≡ (text_read (take end line) buffer).reading = sym was ∙ ap (λ (o : Read Reading). o.reading) is in
      rw (held, read)
      (uncommented-in (length line) (length buffer) end _ fits
      (wider (length (take end line)) (length line) (length buffer) (text_read (take end line) buffer).reading (omega (arith, length-take end line)) (text_in (take end line) buffer)))
