-- 11 is settled first; what is hashed settles 12 and the number.
use mathlib.Core.Bool.{false}
use mathlib.Core.List.{List}
use mathlib.Core.Path.{◌≡◌, refl}
use Prim.Native.Nat.{ℕ}
use Rattle.std.specs.Prelude.{Option, None, Some, IfOk}
use Rattle.std.specs.Option.{ok_or}
use Rattle.entries.specs.Entries.{Entry}
use Rattle.rules.specs.Create.{clashes}
use Rattle.rules.specs.Refusals.{answer_of}
use Rattle.rules.specs.Store.{Store, blocks, some_region_block}
use Rattle.ledger.specs.Refusals.{answered}
use Rattle.ledger.specs.declared.refusals.Refusal.TheVariants.{Unsigned}
use Rattle.ledger.proofs.Judge.{decides, none, here, past}
use Rattle.validation.specs.Pieces.{executed_entries}
use Rattle.validation.specs.Sets.{AllJoined, Admitted, hash_number}
use Rattle.validation.proofs.Clashes.{clash_found, unsigned_found, gathered_inside, admitted}
use Rattle.validation.proofs.Hashing.{region_unknown, region_known, region_counted}
use Rattle.validation.proofs.table.Table.check_executed.Goals as goal

module _ (golden : List ℕ) (s : Store) (m : ℕ) (e : ℕ → Entry) (members : List ℕ) (joined : AllJoined s m e members) (apart : some_region_block s (clashes s m e) ≡ false) where
  value_hashed : (n : Option ℕ) → n ≡ hash_number golden s members 0 (blocks s) → answered (ok_or n Unsigned) ≡ answer_of (executed_entries golden s m e)
  value_hashed None is = decides (past apart (here (unsigned_found s m e members joined golden refl (region_unknown golden s members is))))
  value_hashed (Some n) is = decides (past apart (past (unsigned_found s m e members joined golden refl (region_known golden s members is)) none))

  admitted_hashed : (n : Option ℕ) → n ≡ hash_number golden s members 0 (blocks s) → IfOk (ok_or n Unsigned) (λ n. Admitted s m e members n)
  admitted_hashed None is = tt
  admitted_hashed (Some n) is = admitted s m e members joined (region_counted golden s members is)

pub returns-then-some_clashes : goal.returns-then-some_clashes
returns-then-some_clashes c = record { value = decides (here (clash_found _ _ _ _ c.requires.joined c.requires.uncounted c.requires.in_place.placed c.some_clashes.ensures c.if-some_clashes.true)); admitted = tt }

pub hash_members-requires : goal.hash_members-requires
hash_members-requires c = gathered_inside _ _ _ _ c.requires.joined c.requires.in_place.placed

pub returns : goal.returns
returns c =
    let joined = c.requires.joined in
    let apart = clash_found _ _ _ _ joined c.requires.uncounted c.requires.in_place.placed c.some_clashes.ensures c.if-some_clashes.false in
    rw c.ok_or.ensures.value (record { value = value_hashed _ _ _ _ _ joined apart _ c.hash_members.ensures; admitted = admitted_hashed _ _ _ _ _ joined apart _ c.hash_members.ensures })
