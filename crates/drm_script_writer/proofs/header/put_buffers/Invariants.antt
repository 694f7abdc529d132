use Rattle.std.proofs.Common.{◌≡◌, ◌++◌, drop, take}
use Rattle.std.specs.Prelude.{flat_map}
use Rattle.std.specs.List.{AllByRecursion}
use Rattle.drm_script_writer.specs.Headers.{HasBytes, line_of_bytes}
use Rattle.drm_script_writer.proofs.header.put_buffers.Given as goal

abbrev pub invariant-loop-buffer : goal.invariant-loop-buffer
invariant-loop-buffer l =
    (l.out.items ++ flat_map (line_of_bytes l.word) (drop l.buffer-index l.buffers) ≡ l.fn.out.items ++ flat_map (line_of_bytes l.word) l.buffers)
    × AllByRecursion HasBytes (take l.buffer-index l.buffers)
