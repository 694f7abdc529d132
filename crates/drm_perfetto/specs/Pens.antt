-- What a pen adds to a text.
use Rattle.std.specs.Prelude.{ℕ, List, ◌++◌, flat_map}
use Rattle.drm_stream.specs.Streams.{SinkState}
use Rattle.drm_engine.specs.Replaying.{Told}
use Rattle.drm_perfetto.specs.declared.entry.Entry.{Entry}
use Rattle.drm_perfetto.specs.declared.pen.Pen.{Pen}
use Rattle.drm_perfetto.specs.Entries.{text_of}

-- whatever was told of a text before, this is told behind it: all but the piece that is still to be written, or a front
-- where a write failed
pub record Adds (old : Pen) (from : SinkState) (text : List ℕ) (new : Pen) (to : SinkState) : Type 0 where
  pub told : (start : SinkState) (before : List ℕ) → Told start from old.told before old.piece → Told start to new.told (before ++ text) new.piece

-- the same of the text of entries
pub record AddsEntries (old : Pen) (from : SinkState) (entries : List Entry) (new : Pen) (to : SinkState) : Type 0 where
  pub adds : Adds old from (flat_map text_of entries) new to
