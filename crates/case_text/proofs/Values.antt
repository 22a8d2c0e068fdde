-- Laws of numbers that digits write, and of runs of bytes. Assumes nothing.
use Prim.Native.Nat.{ℕ, ◌+◌, ◌<◌, ◌≤◌}
use native.Mathlib.Numerals.{add-one}
use mathlib.Core.Path.{◌≡◌, refl, sym, ap, ◌∙◌}
use mathlib.Core.List.{List}
use mathlib.Core.Bool.{false}
use lib.Dec.{eqb}
use lib.ListN.{length, get_or, drop, take}
use lib.Seq.{drop-cons, drop-length}
use Rattle.std.specs.Prelude.{Option, Some, None, Result, Ok, Err}
use Rattle.rules.proofs.Ladder.{lt-is, lt_not, when_false}
use Rattle.case_text.specs.declared.fault.Fault.{Fault}
use Rattle.case_text.specs.declared.fault.Fault.TheVariants.{ByteExpected}
use Rattle.case_text.specs.declared.bytes.Run.{Run}
use Rattle.case_text.specs.Text.{star_at, between}
use Rattle.case_text.specs.Numbers.{digit_of, longer_by, value_from, value_of}
use Rattle.case_text.specs.Bytes.{byte_of, times_of, starred, run_of}

-- ---- the digits from i on, behind the number n

module _ (base : ℕ) (digits : List ℕ) (i n : ℕ) where
  module _ (h : i < length digits) (r : Result ℕ Fault) (is : r ≡ longer_by base n (digit_of (get_or digits i 0))) where
    pub value-stops : (why : Fault) → r ≡ Err why → (t : Result ℕ Fault) → t ≡ Err why → t ≡ value_from base (drop i digits) n
    unfolding value_from
    value-stops why e t f = rw (drop-cons digits i 0 h, sym is ∙ e) f

    pub value-goes : (m : ℕ) → r ≡ Ok m → value_from base (drop i digits) n ≡ value_from base (drop (i + 1) digits) m
    unfolding value_from
    value-goes m e = rw (drop-cons digits i 0 h, sym is ∙ e, add-one i)

  pub value-ends : i ≡ length digits → value_from base (drop i digits) n ≡ Ok n
  unfolding value_from
  value-ends e = rw (ap (λ (k : ℕ). drop k digits) e ∙ drop-length digits)

-- some digits are those from the first on
pub some-digits : (base : ℕ) (digits : List ℕ) → eqb (length digits) 0 ≡ false → value_from base digits 0 ≡ value_of base digits
unfolding value_of
some-digits base digits e = sym (when_false (eqb (length digits) 0) _ _ e)

-- ---- a run of bytes, as it was read

module _ (w : List ℕ) (star : ℕ) (at : star ≡ star_at w) (x : Option ℕ) (is : x ≡ byte_of (take star w)) where
  run_is : (y : Option ℕ) → x ≡ y → starred w star y ≡ run_of w
  unfolding run_of
  run_is y e = rw (sym e, is, at)

  pub run_none : x ≡ None → Err ByteExpected ≡ run_of w
  run_none e = run_is _ e

  module _ (b : ℕ) (e : x ≡ Some b) where
    pub run-once : length w ≤ star → Ok (record { byte = b; times = 1 }) ≡ run_of w
    run-once h = lt_not _ _ _ _ _ h refl ∙ run_is _ e

    pub run-times : star < length w → (r : Result ℕ Fault) → r ≡ value_of 10 (between w (star + 1) (length w))
        → (s : Result ℕ Fault) → r ≡ s → (t : Result Run Fault) → t ≡ times_of b s → t ≡ run_of w
    run-times h r d s f t g = lt-is _ _ _ _ _ h (g ∙ ap (times_of b) (sym f ∙ d)) ∙ run_is _ e
