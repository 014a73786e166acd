use Rattle.std.proofs.Common.{◌≡◌, ◌/◌, length, sym, refl, ◌∙◌, arith}
use Rattle.words.specs.Bounded.{any}
use Rattle.words.proofs.Bounded.{any_step}
use Rattle.signature.specs.Signed.{agrees, digest_bytes, listed}
use Rattle.signature.proofs.Search.{agrees_more, agrees_not, listed_at}
use Rattle.signature.proofs.golden.is_listed.Goals as goal

pub search-init : goal.search-init
unfolding any
search-init c = (refl, refl)

pub loop-j-init : goal.loop-j-init
unfolding agrees any
loop-j-init c = refl

pub search-preserved : goal.search-preserved
search-preserved c =
    let a = c.args in
    let k = c.search.k in
    (c.search.invariant.0, any_step _ k c.search.invariant.1 (agrees_not a.digest.now a.golden.now k digest_bytes c.loop-j.j c.loop-j-test.true c.if-digest-j.true))

pub loop-j-preserved : goal.loop-j-preserved
loop-j-preserved c =
    let a = c.args in
    agrees_more a.digest.now a.golden.now c.search.k c.loop-j.j c.loop-j.invariant c.if-digest-j.false

pub returns-after-search : goal.returns-after-search
unfolding listed
returns-after-search c =
    let e : c.search.k ≡ length c.args.golden.now / digest_bytes = omega arith in
    c.search.invariant.0 ∙ sym (rw e at c.search.invariant.1)

pub returns-after-loop-j : goal.returns-after-loop-j
returns-after-loop-j c =
    let e : c.loop-j.j ≡ digest_bytes = omega arith in
    listed_at _ _ c.search.k c.search-test.true (rw e at c.loop-j.invariant)
