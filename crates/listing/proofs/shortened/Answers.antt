-- `listing::shortened` meets its contract. Assumes nothing.
use mathlib.Core.Path.{◌≡◌, sym, ◌∙◌}
use native.Mathlib.Omega.{arith}
use lib.ListN.{length, take}
use lib.Seq.{length-take-le}
use Rattle.rules.specs.Bytes.{cut}
use Rattle.pages.proofs.Lent.{put_whole}
use Rattle.listing.proofs.Whole.{header_at, header-length, header-cut, header-cut-length, answers-told, answers-refused}
use Rattle.listing.proofs.shortened.Goals as goal

pub returns-then-answer-n : goal.returns-then-answer-n
returns-then-answer-n c =
    let short : c.min-n.result ≡ length (cut c.args.allocation (header_at c.args.action c.args.x)) =
    c.min-n.ensures ∙ sym (header-cut-length c.args.allocation c.args.action c.args.x) in
    answers-refused _ _ (rw (← short) c.if-answer-n.true)

pub slice_bounds-h-end : goal.slice_bounds-h-end
slice_bounds-h-end c =
    omega (arith, c.min-n.ensures, c.header.auto.d)

pub slice_bounds-copy-end : goal.slice_bounds-copy-end
slice_bounds-copy-end c = sym (length-take-le c.min-n.result c.header.new.d (omega (arith, c.min-n.ensures, c.header.auto.d)))

pub copy-requires : goal.copy-requires
copy-requires c =
    let part : length (take c.min-n.result c.header.new.d) ≡ c.min-n.result = length-take-le c.min-n.result c.header.new.d (omega (arith, c.min-n.ensures, c.header.auto.d)) in
    rw part c.if-answer-n.false

pub returns : goal.returns
unfolding cut
returns c =
    let short : c.min-n.result ≡ length (cut c.args.allocation (header_at c.args.action c.args.x)) =
    c.min-n.ensures ∙ sym (header-cut-length c.args.allocation c.args.action c.args.x) in
    let first : take c.min-n.result (header_at c.args.action c.args.x) ≡ cut c.args.allocation (header_at c.args.action c.args.x) =
    rw c.min-n.ensures (header-cut c.args.allocation c.args.action c.args.x) in
    let h : c.header.new.d ≡ header_at c.args.action c.args.x = c.header.ensures ∙ put_whole _ _ (header-length _ _ _ _) in
    answers-told _ _ _ _ (c.copy.ensures ∙ rw (h, first)) short c.if-answer-n.false
