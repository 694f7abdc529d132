use Rattle.std.specs.String.{string_bytes}
use Rattle.std.proofs.Common.{rules, map, ◌∙◌, ap₂}
use Rattle.clap.specs.Words.{found_of, rows_of, takes}
use Rattle.drm_command_line.proofs.Asked.{anything_asked, known_found}
use Rattle.drm_command_line.proofs.Entered.{failed_by, none_refused, words_found}
use Rattle.drm_command_line.proofs.Taken.{engine_alone, is_flag_taken, is_taken, words_alone}
use Rattle.drm_command_line.proofs.request.read_words.Goals as goal

pub returns-in_err-program-clause-accepted : goal.returns-in_err-program-clause-accepted
returns-in_err-program-clause-accepted c = anything_asked (map string_bytes c.args.words.now)

pub returns-in_err-matches-clause-command : goal.returns-in_err-matches-clause-command
returns-in_err-matches-clause-command c = λ engine line.
    let app = c.in_ok-program.ensures in
    let memory = c.in_err-matches.ensures.passes (ap₂ takes app line.1 ∙ is_taken line.0 engine) in
    search (rules, memory)

pub returns-in_err-matches-clause-worded : goal.returns-in_err-matches-clause-worded
returns-in_err-matches-clause-worded c = λ line.
    let app = c.in_ok-program.ensures in
    let memory = c.in_err-matches.ensures.passes (ap₂ takes app line.1 ∙ is_flag_taken line.0) in
    search (rules, memory)

pub returns-in_err-matches-clause-kinds : goal.returns-in_err-matches-clause-kinds
returns-in_err-matches-clause-kinds c =
    let kinds = failed_by _ (map string_bytes c.args.words.now) _ c.in_ok-program.ensures c.in_err-matches.ensures.kinds in
    search (rules, kinds)

pub returns-in_err-matches-clause-accepted : goal.returns-in_err-matches-clause-accepted
returns-in_err-matches-clause-accepted c = anything_asked (map string_bytes c.args.words.now)

pub request_of-requires : goal.request_of-requires
request_of-requires c =
    let app = c.in_ok-program.ensures in
    let words = map string_bytes c.args.words.now in
    let rows = rows_of (found_of c.in-Some.command.now) in
    let found = words_found _ words _ c.in-Some.name.now rows app c.in_ok-matches.ensures.matches c.in-Some.ensures.name c.in-Some.ensures.rows in
    known_found words c.in-Some.name.now rows (none_refused _ words app c.in_ok-matches.ensures.kinds) found

pub returns-clause-named : goal.returns-clause-named
returns-clause-named c =
    let rows = rows_of (found_of c.in-Some.command.now) in (
      c.in-Some.name.now,
      rows,
      words_found _ (map string_bytes c.args.words.now) _ c.in-Some.name.now rows c.in_ok-program.ensures c.in_ok-matches.ensures.matches c.in-Some.ensures.name c.in-Some.ensures.rows,
      c.request_of.ensures,
    )

pub returns-clause-command : goal.returns-clause-command
returns-clause-command c = λ engine line.
    let words = map string_bytes c.args.words.now in
    let rows = rows_of (found_of c.in-Some.command.now) in
    let found = words_found _ words _ c.in-Some.name.now rows c.in_ok-program.ensures c.in_ok-matches.ensures.matches c.in-Some.ensures.name c.in-Some.ensures.rows in
    engine_alone words engine c.request_of.result line (c.in-Some.name.now, rows, found, c.request_of.ensures)

pub returns-clause-worded : goal.returns-clause-worded
returns-clause-worded c = λ line.
    let words = map string_bytes c.args.words.now in
    let rows = rows_of (found_of c.in-Some.command.now) in
    let found = words_found _ words _ c.in-Some.name.now rows c.in_ok-program.ensures c.in_ok-matches.ensures.matches c.in-Some.ensures.name c.in-Some.ensures.rows in
    words_alone words c.request_of.result line (c.in-Some.name.now, rows, found, c.request_of.ensures)

pub returns-clause-kinds : goal.returns-clause-kinds
returns-clause-kinds c =
    none_refused _ _ c.in_ok-program.ensures c.in_ok-matches.ensures.kinds

pub returns-clause-accepted : goal.returns-clause-accepted
returns-clause-accepted c = anything_asked (map string_bytes c.args.words.now)
