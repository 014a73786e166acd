-- The invariant: the lines of the records passed are added, and what the iterator has left is what stands behind them.
use Rattle.std.proofs.Common.{◌≡◌, ◌*◌, length, drop}
use Rattle.std.specs.Iterator.Adapters.{zip_first, zip_second}
use Rattle.std.specs.Slice.Iter.{iter_rest}
use Rattle.std.specs.Slice.Iter.{chunks_exact_rest, chunks_exact_size}
use Rattle.steps.specs.Records.{record_bytes}
use Rattle.transcript.proofs.Laying.{Laying}
use Rattle.transcript.proofs.push_lines.Given as goal

abbrev pub invariant-loop-record : goal.invariant-loop-record
invariant-loop-record l =
    (l.text.bytes.ghost_name ≡ l.initial.text.bytes.ghost_name)
    × Laying l.records l.answers l.bytes l.initial.text.bytes.now l.initial.text.end (length l.yielded) l.text.bytes.now l.text.end
    × (chunks_exact_size (zip_first (zip_first l.record-iterator)) ≡ record_bytes)
    × (chunks_exact_rest (zip_first (zip_first l.record-iterator)) ≡ drop (record_bytes * length l.yielded) l.records)
    × (iter_rest (zip_second (zip_first l.record-iterator)) ≡ drop (length l.yielded) l.answers)
    × (iter_rest (zip_second l.record-iterator) ≡ drop (length l.yielded) l.bytes)
