-- What is answered of a log.
use Rattle.std.specs.Prelude.{ℕ, Bool, true, false, ◌-◌, ◌*◌, ◌^◌, min, List, [], ◌++◌, flat_map, find, length, map, option_map, Option}
use Rattle.std.specs.Str.{bytes_eq}
use Rattle.drm_trace.specs.declared.log.Log.{Log}
use Rattle.drm_conform.specs.declared.options.Limit.{Limit}
use Rattle.drm_conform.specs.declared.options.Options.{Options}
use Rattle.drm_rules.specs.declared.rules.Broken.{Broken}
use Rattle.drm_rules.specs.declared.rules.Demands.{Demands}
use Rattle.drm_rules.specs.Rules.{broken}
use Rattle.drm_conform.specs.Times.{counts_of}
use Rattle.drm_conform.specs.Words.{text_of_broken, text_of_counts, text_of_jobs, text_of_loss, text_of_rest, text_of_rings, text_of_tolerance}

-- the limit of a ring: the first that is given for its name
abbrev pub limit_of : List Limit → List ℕ → Option ℕ
limit_of limits name = option_map (λ limit. limit.most) (find (λ limit. bytes_eq limit.ring name) limits)

-- what is demanded of a log, with the tolerance in nanoseconds, and the limits by the numbers of its rings
abbrev pub demands_of : Options → Log → Demands
demands_of options log = record {
  tolerance = min (options.tolerance * 1000) (2 ^ 64 - 1);
  in_order = options.in_order;
  limits = map (limit_of options.limits) log.rings;
}

-- the rules that a log breaks, under these options
abbrev pub broken_in : Options → Log → List Broken
broken_in options log = broken (demands_of options log) log.events

-- the lines that tell of no job
abbrev pub passed_over : Log → ℕ
passed_over log = log.lines - length log.events

-- the table of jobs, where it is asked for
abbrev pub jobs_asked : Bool → Log → List ℕ
jobs_asked true log = text_of_jobs log (length log.jobs)
jobs_asked false log = []

-- what is told behind the broken rules, of which there are so many
abbrev pub text_behind : Options → Log → ℕ → List ℕ
text_behind options log count =
    text_of_counts (counts_of log.events (length log.jobs)) count
    ++ text_of_rest (counts_of log.events (length log.jobs)) (passed_over log)
    ++ text_of_loss log.lost
    ++ text_of_tolerance options.tolerance
    ++ text_of_rings log (length log.rings)
    ++ jobs_asked options.jobs log

-- each broken rule in a line, and then the counts and the tables
abbrev pub text_of_answer : Options → Log → List ℕ
text_of_answer options log = flat_map (text_of_broken log) (broken_in options log) ++ text_behind options log (length (broken_in options log))
