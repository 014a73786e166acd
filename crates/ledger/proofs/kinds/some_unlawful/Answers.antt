use mathlib.Core.Path.{◌≡◌, refl, ◌∙◌}
use native.Mathlib.Omega.{arith}
use Rattle.words.specs.Bounded.{any}
use Rattle.words.proofs.Bounded.{flag_next}
use Rattle.words.proofs.Words.{Bytes}
use Rattle.ledger.proofs.MemoryKinds.{unlawful_pairs}
use Rattle.ledger.proofs.kinds.some_unlawful.Goals as goal

pub loop-i-init : goal.loop-i-init
unfolding any
loop-i-init c = (omega arith, refl)

pub loop-i-preserved : goal.loop-i-preserved
loop-i-preserved c =
    let loop = c.loop-i in
    (omega arith, flag_next _ _ loop.invariant.1 (rw (c.is_unlawful_pair-found.ensures, c.word.ensures) refl))

pub returns : goal.returns
returns c =
    let bytes : Bytes c.args.kinds.now = λ i. omega (arith, c.shared_slice_known-1.given i) in
    let all : c.loop-i.i ≡ 4 = omega (arith, c.loop-i.invariant.0) in
    c.loop-i.invariant.1 ∙ rw all (unlawful_pairs _ bytes)
