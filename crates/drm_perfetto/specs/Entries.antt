-- The text of a trace: one object of JSON for each entry, in Chrome's trace event format.
use Rattle.std.specs.Prelude.{ℕ, ◌+◌, List, [], ◌∷◌, codes}
use Rattle.drm_perfetto.specs.declared.entry.Entry.{Entry}
use Rattle.drm_perfetto.specs.declared.entry.Entry.TheVariants as entry
use Rattle.drm_perfetto.specs.declared.entry.Track.{Track}
use Rattle.drm_perfetto.specs.declared.entry.Track.TheVariants as track
use Rattle.drm_perfetto.specs.declared.entry.When.{When}
use Rattle.drm_engine.specs.Filling.{filled, four}

-- the words of the name of a track, with '%' in place of each number, and the numbers
abbrev pub said_of_name : Track → List ℕ × List ℕ
said_of_name (track.Ring ring) =
    (codes ",\n{\"ph\":\"M\",\"pid\":1,\"tid\":%,\"name\":\"thread_name\",\"args\":{\"name\":\"ring %\"}}", four (ring + 1) ring 0 0)
said_of_name (track.Queue entity) =
    (codes ",\n{\"ph\":\"M\",\"pid\":2,\"tid\":%,\"name\":\"thread_name\",\"args\":{\"name\":\"queue of entity %\"}}", four (entity + 1) entity 0 0)
said_of_name (track.Wait entity) =
    (codes ",\n{\"ph\":\"M\",\"pid\":3,\"tid\":%,\"name\":\"thread_name\",\"args\":{\"name\":\"waits of entity %\"}}", four (entity + 1) entity 0 0)
said_of_name (track.Buffer buffer) =
    (codes ",\n{\"ph\":\"M\",\"pid\":4,\"tid\":%,\"name\":\"thread_name\",\"args\":{\"name\":\"buffer %\"}}", four (buffer + 1) buffer 0 0)

-- those of the begin of a slice
abbrev pub said_of_begin : ℕ → ℕ → ℕ → Track → List ℕ × List ℕ
said_of_begin at what of (track.Ring ring) =
    (codes ",\n{\"ph\":\"B\",\"pid\":1,\"tid\":%,\"ts\":%,\"name\":\"job %\",\"args\":{\"entity\":%}}", four (ring + 1) at what of)
said_of_begin at what of (track.Queue entity) =
    (codes ",\n{\"ph\":\"B\",\"pid\":2,\"tid\":%,\"ts\":%,\"name\":\"job %\",\"args\":{\"ring\":%}}", four (entity + 1) at what of)
said_of_begin at what of (track.Wait entity) =
    (codes ",\n{\"ph\":\"B\",\"pid\":3,\"tid\":%,\"ts\":%,\"name\":\"job % waits for fence %\"}", four (entity + 1) at what of)
said_of_begin at what of (track.Buffer buffer) =
    (codes ",\n{\"ph\":\"B\",\"pid\":4,\"tid\":%,\"ts\":%,\"name\":\"context %\"}", four (buffer + 1) at what 0)

-- those of its end
abbrev pub said_of_end : ℕ → Track → List ℕ × List ℕ
said_of_end at (track.Ring ring) =
    (codes ",\n{\"ph\":\"E\",\"pid\":1,\"tid\":%,\"ts\":%}", four (ring + 1) at 0 0)
said_of_end at (track.Queue entity) =
    (codes ",\n{\"ph\":\"E\",\"pid\":2,\"tid\":%,\"ts\":%}", four (entity + 1) at 0 0)
said_of_end at (track.Wait entity) =
    (codes ",\n{\"ph\":\"E\",\"pid\":3,\"tid\":%,\"ts\":%}", four (entity + 1) at 0 0)
said_of_end at (track.Buffer buffer) =
    (codes ",\n{\"ph\":\"E\",\"pid\":4,\"tid\":%,\"ts\":%}", four (buffer + 1) at 0 0)

-- the words of an arrow that leaves a queue
abbrev pub leaves_queue : List ℕ
leaves_queue =
    codes ",\n{\"ph\":\"s\",\"pid\":2,\"tid\":%,\"ts\":%,\"id\":\"%a%\",\"cat\":\"fence\",\"name\":\"lets go\"}"

-- those of the begin of an arrow: a ring has it where a job ended, and a queue where one left it
abbrev pub said_of_leave : When → ℕ → Track → List ℕ × List ℕ
said_of_leave when entity (track.Ring ring) =
    (codes ",\n{\"ph\":\"s\",\"pid\":1,\"tid\":%,\"ts\":%,\"id\":\"%a%\",\"cat\":\"fence\",\"name\":\"lets go\"}", four (ring + 1) when.at when.command entity)
said_of_leave when entity (track.Queue number) = (leaves_queue, four (number + 1) when.at when.command entity)
said_of_leave when entity (track.Wait number) = (leaves_queue, four (number + 1) when.at when.command entity)
said_of_leave when entity (track.Buffer number) = (leaves_queue, four (number + 1) when.at when.command entity)

-- the words of an entry, and its numbers
abbrev pub said_of : Entry → List ℕ × List ℕ
said_of (entry.Name on) = said_of_name on
said_of (entry.Begin on at what of) = said_of_begin at what of on
said_of (entry.End on at) = said_of_end at on
said_of (entry.Leave on when entity) = said_of_leave when entity on
said_of (entry.Reach when entity) =
    (codes ",\n{\"ph\":\"f\",\"bp\":\"e\",\"pid\":3,\"tid\":%,\"ts\":%,\"id\":\"%a%\",\"cat\":\"fence\",\"name\":\"lets go\"}", four (entity + 1) when.at when.command entity)
said_of (entry.Credits ring at used) =
    (codes ",\n{\"ph\":\"C\",\"pid\":1,\"ts\":%,\"name\":\"credits in use on ring %\",\"args\":{\"credits\":%}}", four at ring used 0)
said_of (entry.Queued ring at jobs) =
    (codes ",\n{\"ph\":\"C\",\"pid\":1,\"ts\":%,\"name\":\"jobs queued for ring %\",\"args\":{\"jobs\":%}}", four at ring jobs 0)
said_of (entry.Ran ring at fence packet) =
    (codes ",\n{\"ph\":\"i\",\"s\":\"t\",\"pid\":1,\"tid\":%,\"ts\":%,\"name\":\"packet %\",\"args\":{\"job\":%}}", four (ring + 1) at packet fence)
said_of (entry.Stalled ring at fence) =
    (codes ",\n{\"ph\":\"i\",\"s\":\"t\",\"pid\":1,\"tid\":%,\"ts\":%,\"name\":\"job % stalls\"}", four (ring + 1) at fence 0)
said_of (entry.Done ring at fence) =
    (codes ",\n{\"ph\":\"i\",\"s\":\"t\",\"pid\":1,\"tid\":%,\"ts\":%,\"name\":\"job % is done\"}", four (ring + 1) at fence 0)
said_of (entry.Skipped ring at fence) =
    (codes ",\n{\"ph\":\"i\",\"s\":\"t\",\"pid\":1,\"tid\":%,\"ts\":%,\"name\":\"job % was skipped\"}", four (ring + 1) at fence 0)
said_of (entry.Hung ring at) =
    (codes ",\n{\"ph\":\"i\",\"s\":\"t\",\"pid\":1,\"tid\":%,\"ts\":%,\"name\":\"hang\"}", four (ring + 1) at 0 0)
said_of (entry.Guilty ring at entity) =
    (codes ",\n{\"ph\":\"i\",\"s\":\"t\",\"pid\":1,\"tid\":%,\"ts\":%,\"name\":\"hang: entity % is guilty\"}", four (ring + 1) at entity 0)
said_of (entry.Stopped entity at) =
    (codes ",\n{\"ph\":\"i\",\"s\":\"t\",\"pid\":2,\"tid\":%,\"ts\":%,\"name\":\"stopped\"}", four (entity + 1) at 0 0)
said_of (entry.Reaped entity at fence) =
    (codes ",\n{\"ph\":\"i\",\"s\":\"t\",\"pid\":2,\"tid\":%,\"ts\":%,\"name\":\"job % never ran\"}", four (entity + 1) at fence 0)
said_of (entry.BacksOff buffer at ctx) =
    (codes ",\n{\"ph\":\"i\",\"s\":\"t\",\"pid\":4,\"tid\":%,\"ts\":%,\"name\":\"context % should back off\"}", four (buffer + 1) at ctx 0)
said_of (entry.MayWait buffer at ctx) =
    (codes ",\n{\"ph\":\"i\",\"s\":\"t\",\"pid\":4,\"tid\":%,\"ts\":%,\"name\":\"context % may wait\"}", four (buffer + 1) at ctx 0)

-- the text of an entry
abbrev pub text_of : Entry → List ℕ
text_of told = filled (said_of told).0 (said_of told).1
