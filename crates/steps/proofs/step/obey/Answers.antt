-- Each arm calls the exported function that the step names, and what that promises is the step's call.
use mathlib.Core.List.{List}
use mathlib.Core.Path.{◌≡◌}
use Prim.Native.Nat.{ℕ}
use Rattle.rules.specs.Store.{Store}
use Rattle.rules.specs.Steps.{Step, obey}
use Rattle.monitor.specs.Calls.{Called, pagemon_begin, pagemon_create_l1, pagemon_create_l2, pagemon_free_l1, pagemon_free_l2, pagemon_map_l1, pagemon_map_l2, pagemon_map_large, pagemon_link, pagemon_unmap_l1, pagemon_unmap_l2, pagemon_unmap_large, pagemon_switch, pagemon_read, pagemon_fetch, pagemon_write}
use Rattle.monitor.proofs.Calls.{called_obeys}
use Rattle.steps.proofs.step.obey.Goals as goal

-- what a call answers, gives and leaves is what comes of its step
obeyed : {golden : List ℕ} {s after : Store} {step : Step} {answer byte : ℕ} → Called golden s step after answer byte
    → record { answer_value : answer ≡ (obey golden s step).answer; byte_value : byte ≡ (obey golden s step).byte; ledger_after : after ≡ (obey golden s step).after }
obeyed c = let (answer, (byte, after)) = called_obeys c in record { answer_value = answer; byte_value = byte; ledger_after = after }

pub returns-in-Begin : goal.returns-in-Begin
returns-in-Begin c = let e = c.pagemon_begin-answer.ensures in rw c.in-Begin.is (obeyed (pagemon_begin e.value e.ledger_after))

pub returns-in-CreateL1 : goal.returns-in-CreateL1
returns-in-CreateL1 c = let e = c.pagemon_create_l1-answer.ensures in rw c.in-CreateL1.is (obeyed (pagemon_create_l1 e.value e.ledger_after))

pub returns-in-CreateL2 : goal.returns-in-CreateL2
returns-in-CreateL2 c = let e = c.pagemon_create_l2-answer.ensures in rw c.in-CreateL2.is (obeyed (pagemon_create_l2 e.value e.ledger_after))

pub returns-in-FreeL1 : goal.returns-in-FreeL1
returns-in-FreeL1 c = let e = c.pagemon_free_l1-answer.ensures in rw c.in-FreeL1.is (obeyed (pagemon_free_l1 e.value e.ledger_after))

pub returns-in-FreeL2 : goal.returns-in-FreeL2
returns-in-FreeL2 c = let e = c.pagemon_free_l2-answer.ensures in rw c.in-FreeL2.is (obeyed (pagemon_free_l2 e.value e.ledger_after))

pub returns-in-MapL1 : goal.returns-in-MapL1
returns-in-MapL1 c = let e = c.pagemon_map_l1-answer.ensures in rw c.in-MapL1.is (obeyed (pagemon_map_l1 e.value e.ledger_after))

pub returns-in-MapL2 : goal.returns-in-MapL2
returns-in-MapL2 c = let e = c.pagemon_map_l2-answer.ensures in rw c.in-MapL2.is (obeyed (pagemon_map_l2 e.value e.ledger_after))

pub returns-in-Link : goal.returns-in-Link
returns-in-Link c = let e = c.pagemon_link-answer.ensures in rw c.in-Link.is (obeyed (pagemon_link e.value e.ledger_after))

pub returns-in-UnmapL1 : goal.returns-in-UnmapL1
returns-in-UnmapL1 c = let e = c.pagemon_unmap_l1-answer.ensures in rw c.in-UnmapL1.is (obeyed (pagemon_unmap_l1 e.value e.ledger_after))

pub returns-in-UnmapL2 : goal.returns-in-UnmapL2
returns-in-UnmapL2 c = let e = c.pagemon_unmap_l2-answer.ensures in rw c.in-UnmapL2.is (obeyed (pagemon_unmap_l2 e.value e.ledger_after))

pub returns-in-Switch : goal.returns-in-Switch
returns-in-Switch c = let e = c.pagemon_switch-answer.ensures in rw c.in-Switch.is (obeyed (pagemon_switch e.value e.ledger_after))

pub returns-in-Read : goal.returns-in-Read
returns-in-Read c = let e = c.pagemon_read-answer.ensures in rw c.in-Read.is (obeyed (pagemon_read e.value e.byte_after e.ledger_value))

pub returns-in-Write : goal.returns-in-Write
returns-in-Write c = let e = c.pagemon_write-answer.ensures in rw c.in-Write.is (obeyed (pagemon_write e.value e.ledger_after))

pub returns-in-Fetch : goal.returns-in-Fetch
returns-in-Fetch c = let e = c.pagemon_fetch-answer.ensures in rw c.in-Fetch.is (obeyed (pagemon_fetch e.value e.byte_after e.ledger_value))

pub returns-in-MapLarge : goal.returns-in-MapLarge
returns-in-MapLarge c = let e = c.pagemon_map_large-answer.ensures in rw c.in-MapLarge.is (obeyed (pagemon_map_large e.value e.ledger_after))

pub returns-in-UnmapLarge : goal.returns-in-UnmapLarge
returns-in-UnmapLarge c = let e = c.pagemon_unmap_large-answer.ensures in rw c.in-UnmapLarge.is (obeyed (pagemon_unmap_large e.value e.ledger_after))
