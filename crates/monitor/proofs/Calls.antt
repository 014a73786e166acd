-- Lists 7 to 12 and 14 to 16 hold of every sequence of calls (lists 13): whoever makes them, they leave and hand out what a run of their steps does.
use mathlib.Core.List.{List, [], ◌∷◌, ◌++◌}
use mathlib.Core.Path.{◌≡◌, refl, sym, ◌∙◌, ap}
use Prim.Native.Nat.{ℕ}
use lib.ListN.{length}
use lib.Seq.{take-append_seam}
use Rattle.entries.specs.Entries.{l1, l2}
use Rattle.rules.specs.Store.{Store}
use Rattle.rules.specs.Tables.{sections, pages, larges}
use Rattle.rules.specs.Guest.{reads, fetches, writes}
use Rattle.rules.specs.Steps.{Step, begins, creates, frees, maps, links, unmaps, switches, accesses, acknowledges, forgets, obey, run, run_by}
use Rattle.rules.specs.Demand3.{store_at}
use Rattle.rules.specs.Upheld.{Upholds}
use Rattle.rules.proofs.Acknowledging.{acknowledge_after}
use Rattle.rules.proofs.Outcomes.{begin_byte, create_byte, free_byte, map_byte, link_byte, unmap_byte, switch_byte, write_byte, forget_byte}
use Rattle.rules.proofs.Upheld.{run_upholds_demand3}
use Rattle.monitor.specs.Calls.{Called, pagemon_begin, pagemon_begin_kinds, pagemon_create_l1, pagemon_create_l2, pagemon_free_l1, pagemon_free_l2, pagemon_map_l1, pagemon_map_l1_kind, pagemon_map_l2, pagemon_map_l2_kind, pagemon_map_large, pagemon_map_large_kind, pagemon_link, pagemon_unmap_l1, pagemon_unmap_l2, pagemon_unmap_large, pagemon_switch, pagemon_read, pagemon_fetch, pagemon_write, pagemon_acknowledge, pagemon_forget, Calls, done, call}

-- a call obeys its step
pub called_obeys : {golden : List ℕ} {s after : Store} {step : Step} {answer byte : ℕ} → Called golden s step after answer byte
    → (answer ≡ (obey golden s step).answer) × ((byte ≡ (obey golden s step).byte) × (after ≡ (obey golden s step).after))
unfolding obey
called_obeys (pagemon_begin a l) = (a, (begin_byte _ _ _, l))
called_obeys (pagemon_begin_kinds a l) = (a, (begin_byte _ _ _, l))
called_obeys (pagemon_create_l1 a l) = (a, (create_byte _ _ _ _, l))
called_obeys (pagemon_create_l2 a l) = (a, (create_byte _ _ _ _, l))
called_obeys (pagemon_free_l1 a l) = (a, (free_byte _ _ _, l))
called_obeys (pagemon_free_l2 a l) = (a, (free_byte _ _ _, l))
called_obeys (pagemon_map_l1 a l) = (a, (map_byte _ _ _ _ _ _ _ _, l))
called_obeys (pagemon_map_l1_kind a l) = (a, (map_byte _ _ _ _ _ _ _ _, l))
called_obeys (pagemon_map_l2 a l) = (a, (map_byte _ _ _ _ _ _ _ _, l))
called_obeys (pagemon_map_l2_kind a l) = (a, (map_byte _ _ _ _ _ _ _ _, l))
called_obeys (pagemon_map_large a l) = (a, (map_byte _ _ _ _ _ _ _ _, l))
called_obeys (pagemon_map_large_kind a l) = (a, (map_byte _ _ _ _ _ _ _ _, l))
called_obeys (pagemon_link a l) = (a, (link_byte _ _ _ _ _, l))
called_obeys (pagemon_unmap_l1 a l) = (a, (unmap_byte _ _ _ _, l))
called_obeys (pagemon_unmap_l2 a l) = (a, (unmap_byte _ _ _ _, l))
called_obeys (pagemon_unmap_large a l) = (a, (unmap_byte _ _ _ _, l))
called_obeys (pagemon_switch a l) = (a, (switch_byte _ _, l))
called_obeys (pagemon_read a b l) = (a, (b, l))
called_obeys (pagemon_fetch a b l) = (a, (b, l))
called_obeys (pagemon_write a l) = (a, (write_byte _ _ _ _, l))
called_obeys (pagemon_acknowledge a b) = (a, (b, sym (acknowledge_after _ _)))
called_obeys (pagemon_forget a l) = (a, (forget_byte _ _ _, l))

-- a sequence of calls is a run of its steps
pub calls-run : {golden : List ℕ} {s left : Store} {steps : List Step} {answers bytes : List ℕ} → Calls golden s steps left answers bytes
    → (let r = run golden s steps in (left ≡ r.reached) × ((answers ≡ r.answers) × (bytes ≡ r.bytes)))
unfolding run_by
calls-run done = (refl, (refl, refl))
calls-run (call c cs) =
    let (a, (b, l)) = called_obeys c in
    let (reached, (said, given)) = rw l at (calls-run cs) in
    (reached, (rw (a, said) refl, rw (b, given) refl))

-- the named theorem, lists 13: lists 7 to 12 and 14 to 16 of exactly what is left and handed out by every sequence of calls, whoever makes them, over whatever was lent
pub calls_uphold_demand3 : {golden : List ℕ} {s left : Store} {steps : List Step} {answers bytes : List ℕ}
    → Calls golden s steps left answers bytes → Upholds golden s steps left answers bytes
calls_uphold_demand3 {golden} {s} {left} {steps} cs =
    let (reached, (said, given)) = calls-run cs in
    rw (reached, said, given) (run_upholds_demand3 golden s steps)

-- and the stores of which it speaks are those that were passed: after the first calls of a sequence, the one that they left
pub store_passed : {golden : List ℕ} {s left : Store} {steps : List Step} {answers bytes : List ℕ} → Calls golden s steps left answers bytes
    → (more : List Step) → store_at golden s (steps ++ more) (length steps) ≡ left
store_passed {golden} {s} {left} {steps} cs more = ap (λ (first : List Step). (run golden s first).reached) (take-append_seam steps more) ∙ sym (calls-run cs).0

-- every step is some call's, with what it comes to
step_called : (golden : List ℕ) (s : Store) (step : Step) → (let o = obey golden s step in Called golden s step o.after o.answer o.byte)
unfolding obey
step_called golden s (begins kinds first) = rw (← begin_byte s kinds first) (pagemon_begin_kinds refl refl)
step_called golden s (creates l1 block) = rw (← create_byte l1 golden s block) (pagemon_create_l1 refl refl)
step_called golden s (creates l2 block) = rw (← create_byte l2 golden s block) (pagemon_create_l2 refl refl)
step_called golden s (frees l1 block) = rw (← free_byte l1 s block) (pagemon_free_l1 refl refl)
step_called golden s (frees l2 block) = rw (← free_byte l2 s block) (pagemon_free_l2 refl refl)
step_called golden s (maps sections block index target rights kind) = rw (← map_byte sections golden s block index target rights kind) (pagemon_map_l1_kind refl refl)
step_called golden s (maps pages block index target rights kind) = rw (← map_byte pages golden s block index target rights kind) (pagemon_map_l2_kind refl refl)
step_called golden s (maps larges block index target rights kind) = rw (← map_byte larges golden s block index target rights kind) (pagemon_map_large_kind refl refl)
step_called golden s (links block index target table) = rw (← link_byte s block index target table) (pagemon_link refl refl)
step_called golden s (unmaps sections block index) = rw (← unmap_byte sections s block index) (pagemon_unmap_l1 refl refl)
step_called golden s (unmaps pages block index) = rw (← unmap_byte pages s block index) (pagemon_unmap_l2 refl refl)
step_called golden s (unmaps larges block index) = rw (← unmap_byte larges s block index) (pagemon_unmap_large refl refl)
step_called golden s (switches block) = rw (← switch_byte s block) (pagemon_switch refl refl)
step_called golden s (accesses reads registers address) = pagemon_read refl refl refl
step_called golden s (accesses fetches registers address) = pagemon_fetch refl refl refl
step_called golden s (accesses (writes byte) registers address) = rw (← write_byte byte s registers address) (pagemon_write refl refl)
step_called golden s (acknowledges registers) = rw (acknowledge_after s registers) (pagemon_acknowledge refl refl)
step_called golden s (forgets block count) = rw (← forget_byte s block count) (pagemon_forget refl refl)

-- so there is a sequence of calls for every list of steps: the theorem leaves none out
pub run_called : (golden : List ℕ) (s : Store) (steps : List Step) → (let r = run golden s steps in Calls golden s steps r.reached r.answers r.bytes)
unfolding run_by
run_called golden s [] = done
run_called golden s (step ∷ steps) = call (step_called golden s step) (run_called golden (obey golden s step).after steps)
