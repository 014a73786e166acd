-- A call that has no byte to give gives 0.
use mathlib.Core.List.{List}
use mathlib.Core.Path.{◌≡◌, refl, sym}
use Prim.Native.Nat.{ℕ, zero, suc}
use Rattle.entries.specs.Entries.{Level}
use Rattle.rules.specs.Store.{Store}
use Rattle.rules.specs.Outcomes.{Accepted, settle}
use Rattle.rules.specs.Tables.{Form}
use Rattle.rules.specs.Begin.{begin_outcome}
use Rattle.rules.specs.Create.{create_outcome}
use Rattle.rules.specs.Free.{free_outcome}
use Rattle.rules.specs.Map.{map_outcome}
use Rattle.rules.specs.Link.{link_outcome}
use Rattle.rules.specs.Unmap.{unmap_outcome}
use Rattle.rules.specs.Switch.{switch_outcome}
use Rattle.rules.specs.Forget.{forget_outcome}
use Rattle.rules.specs.Guest.{writes, guest_outcome, byte_given}

settle_byte : (k : ℕ) (old : Store) (new : Accepted) → new.byte ≡ 0 → 0 ≡ (settle k old new).byte
unfolding settle
settle_byte zero old new e = sym e
settle_byte (suc k) old new e = refl

pub begin_byte : (s : Store) (kinds : List ℕ) (B : ℕ) → 0 ≡ (begin_outcome s kinds B).byte
unfolding begin_outcome
begin_byte s kinds B = settle_byte _ _ _ refl

pub create_byte : (v : Level) (golden : List ℕ) (s : Store) (p : ℕ) → 0 ≡ (create_outcome v golden s p).byte
unfolding create_outcome
create_byte v golden s p = settle_byte _ _ _ refl

pub free_byte : (v : Level) (s : Store) (p : ℕ) → 0 ≡ (free_outcome v s p).byte
unfolding free_outcome
free_byte v s p = settle_byte _ _ _ refl

pub map_byte : (f : Form) (golden : List ℕ) (s : Store) (p i t r k : ℕ) → 0 ≡ (map_outcome f golden s p i t r k).byte
unfolding map_outcome
map_byte f golden s p i t r k = settle_byte _ _ _ refl

pub link_byte : (s : Store) (p i t j : ℕ) → 0 ≡ (link_outcome s p i t j).byte
unfolding link_outcome
link_byte s p i t j = settle_byte _ _ _ refl

pub unmap_byte : (f : Form) (s : Store) (p i : ℕ) → 0 ≡ (unmap_outcome f s p i).byte
unfolding unmap_outcome
unmap_byte f s p i = settle_byte _ _ _ refl

pub switch_byte : (s : Store) (p : ℕ) → 0 ≡ (switch_outcome s p).byte
unfolding switch_outcome
switch_byte s p = settle_byte _ _ _ refl

pub write_byte : (v : ℕ) (s : Store) (registers : List ℕ) (addr : ℕ) → 0 ≡ (guest_outcome (writes v) s registers addr).byte
unfolding guest_outcome byte_given
write_byte v s registers addr = settle_byte _ _ _ refl

pub forget_byte : (s : Store) (p m : ℕ) → 0 ≡ (forget_outcome s p m).byte
unfolding forget_outcome
forget_byte s p m = settle_byte _ _ _ refl
