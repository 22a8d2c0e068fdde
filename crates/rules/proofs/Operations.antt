-- What the operation of a block says of its first byte. Assumes nothing.
use Prim.Native.Nat.{ℕ}
use mathlib.Core.Path.{◌≡◌}
use borrow.Author.Tests.{eqb-true}
use Rattle.rules.specs.Operation.{Operation, TestUnitReady, RequestSense, Reserve, Release, PreventAllow, MoveMedium, ExchangeMedium, ReadElementStatus, ModeSense, SendVolumeTag, RequestVolumeElementAddress, Unknown, TEST-UNIT-READY, REQUEST-SENSE, RESERVE, RELEASE, PREVENT-ALLOW, MOVE-MEDIUM, EXCHANGE-MEDIUM, READ-ELEMENT-STATUS, MODE-SENSE, SEND-VOLUME-TAG, REQUEST-VOLUME-ELEMENT-ADDRESS, decoded}
use Rattle.rules.proofs.Ladder.{on}

abbrev pub First : Operation → ℕ → Type 0
First TestUnitReady b = b ≡ TEST-UNIT-READY
First RequestSense b = b ≡ REQUEST-SENSE
First Reserve b = b ≡ RESERVE
First Release b = b ≡ RELEASE
First PreventAllow b = b ≡ PREVENT-ALLOW
First MoveMedium b = b ≡ MOVE-MEDIUM
First ExchangeMedium b = b ≡ EXCHANGE-MEDIUM
First ReadElementStatus b = b ≡ READ-ELEMENT-STATUS
First ModeSense b = b ≡ MODE-SENSE
First SendVolumeTag b = b ≡ SEND-VOLUME-TAG
First RequestVolumeElementAddress b = b ≡ REQUEST-VOLUME-ELEMENT-ADDRESS
First Unknown b = Unit {0}

pub decoded-first : (b : ℕ) → First (decoded b) b
unfolding decoded
decoded-first b =
    let F : Operation → Type 0 = λ op. First op b in
    on F _ (λ e. eqb-true b TEST-UNIT-READY e)
    λ _. on F _ (λ e. eqb-true b REQUEST-SENSE e)
    λ _. on F _ (λ e. eqb-true b RESERVE e)
    λ _. on F _ (λ e. eqb-true b RELEASE e)
    λ _. on F _ (λ e. eqb-true b PREVENT-ALLOW e)
    λ _. on F _ (λ e. eqb-true b MOVE-MEDIUM e)
    λ _. on F _ (λ e. eqb-true b EXCHANGE-MEDIUM e)
    λ _. on F _ (λ e. eqb-true b READ-ELEMENT-STATUS e)
    λ _. on F _ (λ e. eqb-true b MODE-SENSE e)
    λ _. on F _ (λ e. eqb-true b SEND-VOLUME-TAG e)
    λ _. on F _ (λ e. eqb-true b REQUEST-VOLUME-ELEMENT-ADDRESS e) λ _. tt
