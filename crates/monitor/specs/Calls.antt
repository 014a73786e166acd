-- The calls of src/lib.rt as a caller calls them, one after the other (RULES: lists, promises).
use Rattle.std.specs.Prelude.{List, [], ◌∷◌, ◌≡◌, ℕ}
use Rattle.entries.specs.Entries.{l1, l2}
use Rattle.rules.specs.Store.{Store}
use Rattle.rules.specs.Tables.{sections, pages, larges}
use Rattle.rules.specs.Begin.{cached_kinds, begin_outcome}
use Rattle.rules.specs.Create.{create_outcome}
use Rattle.rules.specs.Free.{free_outcome}
use Rattle.rules.specs.Map.{first_kind, map_outcome}
use Rattle.rules.specs.Link.{link_outcome}
use Rattle.rules.specs.Unmap.{unmap_outcome}
use Rattle.rules.specs.Switch.{switch_outcome}
use Rattle.rules.specs.Registers.{acknowledge_outcome}
use Rattle.rules.specs.Guest.{reads, fetches, writes, guest_outcome}
use Rattle.rules.specs.Forget.{forget_outcome}
use Rattle.rules.specs.Steps.{Step, begins, creates, frees, maps, links, unmaps, switches, accesses, acknowledges, forgets}

-- promises 1, lists 13: one call, lent an image and a store, by its contract: its step, the store afterwards, its answer, and the byte that
-- it gives (0 where it gives none); the number of blocks hashed and the registers that are left are left out
pub data Called (golden : List ℕ) (s : Store) : Step → Store → ℕ → ℕ → Type 0 where
  pagemon_begin : {first answer : ℕ} {after : Store} → answer ≡ (begin_outcome s cached_kinds first).answer → after ≡ (begin_outcome s cached_kinds first).after
      → Called golden s (begins cached_kinds first) after answer 0
  pagemon_begin_kinds : {kinds : List ℕ} {first answer : ℕ} {after : Store} → answer ≡ (begin_outcome s kinds first).answer → after ≡ (begin_outcome s kinds first).after
      → Called golden s (begins kinds first) after answer 0
  pagemon_create_l1 : {block answer : ℕ} {after : Store} → answer ≡ (create_outcome l1 golden s block).answer → after ≡ (create_outcome l1 golden s block).after
      → Called golden s (creates l1 block) after answer 0
  pagemon_create_l2 : {block answer : ℕ} {after : Store} → answer ≡ (create_outcome l2 golden s block).answer → after ≡ (create_outcome l2 golden s block).after
      → Called golden s (creates l2 block) after answer 0
  pagemon_free_l1 : {block answer : ℕ} {after : Store} → answer ≡ (free_outcome l1 s block).answer → after ≡ (free_outcome l1 s block).after
      → Called golden s (frees l1 block) after answer 0
  pagemon_free_l2 : {block answer : ℕ} {after : Store} → answer ≡ (free_outcome l2 s block).answer → after ≡ (free_outcome l2 s block).after
      → Called golden s (frees l2 block) after answer 0
  pagemon_map_l1 : {block index target rights answer : ℕ} {after : Store}
      → answer ≡ (map_outcome sections golden s block index target rights first_kind).answer → after ≡ (map_outcome sections golden s block index target rights first_kind).after
      → Called golden s (maps sections block index target rights first_kind) after answer 0
  pagemon_map_l1_kind : {block index target rights kind answer : ℕ} {after : Store}
      → answer ≡ (map_outcome sections golden s block index target rights kind).answer → after ≡ (map_outcome sections golden s block index target rights kind).after
      → Called golden s (maps sections block index target rights kind) after answer 0
  pagemon_map_l2 : {block index target rights answer : ℕ} {after : Store}
      → answer ≡ (map_outcome pages golden s block index target rights first_kind).answer → after ≡ (map_outcome pages golden s block index target rights first_kind).after
      → Called golden s (maps pages block index target rights first_kind) after answer 0
  pagemon_map_l2_kind : {block index target rights kind answer : ℕ} {after : Store}
      → answer ≡ (map_outcome pages golden s block index target rights kind).answer → after ≡ (map_outcome pages golden s block index target rights kind).after
      → Called golden s (maps pages block index target rights kind) after answer 0
  pagemon_map_large : {block index target rights answer : ℕ} {after : Store}
      → answer ≡ (map_outcome larges golden s block index target rights first_kind).answer → after ≡ (map_outcome larges golden s block index target rights first_kind).after
      → Called golden s (maps larges block index target rights first_kind) after answer 0
  pagemon_map_large_kind : {block index target rights kind answer : ℕ} {after : Store}
      → answer ≡ (map_outcome larges golden s block index target rights kind).answer → after ≡ (map_outcome larges golden s block index target rights kind).after
      → Called golden s (maps larges block index target rights kind) after answer 0
  pagemon_link : {block index target table answer : ℕ} {after : Store}
      → answer ≡ (link_outcome s block index target table).answer → after ≡ (link_outcome s block index target table).after
      → Called golden s (links block index target table) after answer 0
  pagemon_unmap_l1 : {block index answer : ℕ} {after : Store} → answer ≡ (unmap_outcome sections s block index).answer → after ≡ (unmap_outcome sections s block index).after
      → Called golden s (unmaps sections block index) after answer 0
  pagemon_unmap_l2 : {block index answer : ℕ} {after : Store} → answer ≡ (unmap_outcome pages s block index).answer → after ≡ (unmap_outcome pages s block index).after
      → Called golden s (unmaps pages block index) after answer 0
  pagemon_unmap_large : {block index answer : ℕ} {after : Store} → answer ≡ (unmap_outcome larges s block index).answer → after ≡ (unmap_outcome larges s block index).after
      → Called golden s (unmaps larges block index) after answer 0
  pagemon_switch : {block answer : ℕ} {after : Store} → answer ≡ (switch_outcome s block).answer → after ≡ (switch_outcome s block).after
      → Called golden s (switches block) after answer 0
  pagemon_read : {registers : List ℕ} {address answer byte : ℕ} {after : Store}
      → answer ≡ (guest_outcome reads s registers address).answer → byte ≡ (guest_outcome reads s registers address).byte → after ≡ (guest_outcome reads s registers address).after
      → Called golden s (accesses reads registers address) after answer byte
  pagemon_fetch : {registers : List ℕ} {address answer byte : ℕ} {after : Store}
      → answer ≡ (guest_outcome fetches s registers address).answer → byte ≡ (guest_outcome fetches s registers address).byte → after ≡ (guest_outcome fetches s registers address).after
      → Called golden s (accesses fetches registers address) after answer byte
  pagemon_write : {registers : List ℕ} {address byte answer : ℕ} {after : Store}
      → answer ≡ (guest_outcome (writes byte) s registers address).answer → after ≡ (guest_outcome (writes byte) s registers address).after
      → Called golden s (accesses (writes byte) registers address) after answer 0
  pagemon_acknowledge : {registers : List ℕ} {answer pending : ℕ} → answer ≡ (acknowledge_outcome s registers).answer → pending ≡ (acknowledge_outcome s registers).byte
      → Called golden s (acknowledges registers) s answer pending
  pagemon_forget : {block count answer : ℕ} {after : Store} → answer ≡ (forget_outcome s block count).answer → after ≡ (forget_outcome s block count).after
      → Called golden s (forgets block count) after answer 0

-- lists 3, lists 13: calls in a row from one store to another, each lent what the one before it left, all lent one image, with their answers
-- and the bytes given
pub data Calls (golden : List ℕ) : Store → List Step → Store → List ℕ → List ℕ → Type 0 where
  done : {s : Store} → Calls golden s [] s [] []
  call : {s next left : Store} {step : Step} {steps : List Step} {answer byte : ℕ} {answers bytes : List ℕ}
      → Called golden s step next answer byte → Calls golden next steps left answers bytes
      → Calls golden s (step ∷ steps) left (answer ∷ answers) (byte ∷ bytes)
