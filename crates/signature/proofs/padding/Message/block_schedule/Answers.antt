-- A block that lies in the body is read there.
use Rattle.std.proofs.Common.{◌≡◌, ℕ, ◌+◌, ◌-◌, ◌*◌, List, length, take, drop, sym, ap, ◌∙◌, arith}
use Rattle.words.specs.Lists.{part}
use Rattle.signature.specs.Sha256.{schedule}
use Rattle.signature.proofs.Padded.{length_joined, part_joined}
use Rattle.signature.proofs.padding.Message.block_schedule.Goals as goal

pub overflow_mul-a : goal.overflow_mul-a
overflow_mul-a c = let self = c.args.self in omega (arith, length_joined self.head.now self.body.now, self.paddable)

pub overflow_add-end : goal.overflow_add-end
overflow_add-end c = let self = c.args.self in omega (arith, length_joined self.head.now self.body.now, self.paddable)

pub returns-then-end-self : goal.returns-then-end-self
unfolding part
returns-then-end-self c =
    let head = c.args.self.head.now in
    let body = c.args.self.body.now in
    let start = 64 * c.args.k - length head in
    let e : start + 64 - start ≡ 64 = omega arith in
    c.schedule_of.ensures ∙
    ap (λ (b : List ℕ). schedule b 64) (ap (λ (n : ℕ). take n (drop start body)) e ∙ sym (part_joined head body (64 * c.args.k) 64 (omega arith) (omega arith)))
