-- Words that clap refuses nowhere name a command.
use Rattle.std.proofs.Common.{◌≡◌, ◌≢◌, ◌⊎◌, inl, inr, ℕ, Bool, true, false, cond, List, [], ◌∷◌, Option, Some, None, refl, ap, ◌∙◌, sym, codes, option_map, ap₂, subst, true≢false}
use Rattle.std.specs.Prelude.{⊤, ◌&&◌, ◌||◌, not, is_some, if◌then◌else◌, fold, IfSome, unwrap_or}
use Rattle.std.specs.Str.{bytes_eq}
use Rattle.std.proofs.lemmas.Slice.Eq.{bytes_eq-Decides}
use Rattle.clap.specs.declared.error.kind.ErrorKind.{ErrorKind}
use Rattle.clap.specs.declared.error.kind.ErrorKind.TheVariants.{OutOfMemory}
use Rattle.clap.specs.Kinds.{IsAmong, Kinds, or_else, check_kinds}
use Rattle.clap.specs.Takes.{is_given}
use Rattle.clap.specs.Facts.{explicit_source}
use Rattle.std.specs.List.{list_any}
use Rattle.clap.specs.Faults.{check_fault, defaults_fault, entered_fault, level_fault, settle_fault, other_fault, word_fault, step_fault, turn_fault, walk_fault, fault_of, is_simple_and_free}
use Rattle.clap.specs.Walk.{Held, Names, Outcome, Row, Rule, Step, Text, Waiting, Walk, after_flag, after_step, done, idle, long_or_other, next, option, plain, plain_word, positional, short_or_plain, refused, subcommand, subcommand_met, subcommand_or_other, nothing_held, to_positional, trailing, value, waits, walk, walk_from, walked, settled, finished, walked_from, word_met}
use Rattle.clap.specs.Matches.{subcommand_name_of}
use Rattle.clap.specs.declared.parser.matches.ArgMatches.{ArgMatches}
use Rattle.clap.specs.declared.parser.matches.ArgMatches.TheViews.{out-ArgMatches, out-SubCommand}
use Rattle.clap.specs.declared.parser.matches.SubCommand.{SubCommand}
use Rattle.std.specs.Prelude.{Box}
use Rattle.std.specs.Box.{box_value}
use Rattle.clap.specs.Simple.{App, HasMatchesOf, Shape, is_simple, subcommand_of, subcommand_rows, argument_words, built, entered, names_of, rows_at}
use Rattle.std.proofs.lemmas.Option.{same_Some}
use Rattle.clap.specs.Matches.{ReadsOne, first_value}
use Rattle.clap.specs.Walk.{rows_of}
use Rattle.clap.specs.declared.parser.matches.Found.{Found}
use Rattle.clap.proofs.WalkLemmas.{first_value-rows}
use Rattle.std.specs.Borrow.{Bor}
use Rattle.std.specs.Option.{option_map_or}
use Rattle.std.specs.Str.Parse.{ParsesBool}
use Rattle.drm_command_line.specs.CommandLine.{Gives, program_app}
use Rattle.drm_command_line.specs.Known.{IsOneOf, commands}

-- where the walk over the words has not stopped at `help`
abbrev StopsElsewhere : Option (Text × List Text) → Type 0
StopsElsewhere stopped = IfSome stopped (λ stop. stop.0 ≢ codes "help")

abbrev EntersElsewhere : Step → Type 0
EntersElsewhere (subcommand name) = name ≢ codes "help"
EntersElsewhere _ = ⊤

-- the first of two steps that do not fail does not fail, nor does the second
pub first_is_none : (a b : Kinds) → or_else a b ≡ [] → a ≡ []
first_is_none [] b is = refl
first_is_none (k ∷ ks) b is = absurd (cc)

pub second_is_none : (a b : Kinds) → or_else a b ≡ [] → b ≡ []
second_is_none [] b is = is
second_is_none (k ∷ ks) b is = absurd (cc)

no_help : (is_help is_off : Bool) (k : ErrorKind) (ks : Kinds) → is_off ≡ false → (if is_help && not is_off then k ∷ ks else []) ≡ [] → is_help ≡ false
no_help false is_off k ks off is = refl
no_help true false k ks off is = absurd (cc)
no_help true true k ks off is = absurd (cc)

plain_enters_none : (c : List Rule) (waiting : Waiting) (word : Text) (h : Held) → EntersElsewhere (plain_word c waiting word h).1
plain_enters_none c idle word h = tt
plain_enters_none c (option id) word h = tt
plain_enters_none c positional word h = tt

flag_enters_none : (c : List Rule) (waiting : Waiting) (word : Text) (h : Held) (outcome : Outcome) → EntersElsewhere (after_flag c waiting word h outcome).1
flag_enters_none c waiting word h done = tt
flag_enters_none c waiting word h (waits id) = tt
flag_enters_none c waiting word h plain = plain_enters_none c waiting word h
flag_enters_none c waiting word h refused = plain_enters_none c waiting word h

short_enters_none : (c : List Rule) (waiting : Waiting) (word : Text) (flags : Option Text) (h : Held) → EntersElsewhere (short_or_plain c waiting word flags h).1
short_enters_none c waiting word (Some flags) h = flag_enters_none c waiting word _ _
short_enters_none c waiting word None h = plain_enters_none c waiting word h

long_enters_none : (c : List Rule) (waiting : Waiting) (word : Text) (parts : Option (Text × Option Text)) (h : Held) → EntersElsewhere (long_or_other c waiting word parts h).1
long_enters_none c waiting word (Some p) h = flag_enters_none c waiting word _ _
long_enters_none c waiting word None h = short_enters_none c waiting word _ h

dashes_enter_none : (is_dashes : Bool) (position : ℕ) (h : Held) (other : Held × Step) → EntersElsewhere other.1
    → EntersElsewhere (if is_dashes then (h, trailing position) else other).1
dashes_enter_none true position h other is = tt
dashes_enter_none false position h other is = is

other_enters : (s : Shape) (met : Option Text) (waiting : Waiting) (position : ℕ) (word : Text) (h : Held) → s.disable_help_subcommand ≡ false
    → other_fault s met word h ≡ [] → EntersElsewhere (subcommand_or_other s.rules met waiting position word h).1
other_enters s (Some name) waiting position word h off is =
    let differ = no_help (bytes_eq name (codes "help")) s.disable_help_subcommand _ _ off is in
    λ same. absurd (cc (differ, (bytes_eq-Decides name (codes "help")).1 same))
other_enters s None waiting position word h off is =
    dashes_enter_none (bytes_eq word (45 ∷ 45 ∷ [])) position h _ (long_enters_none s.rules waiting word _ h)

word_enters : (s : Shape) (names : Names) (is_trailing : Bool) (waiting : Waiting) (position : ℕ) (word : Text) (h : Held) → s.disable_help_subcommand ≡ false
    → word_fault s names is_trailing waiting word h ≡ [] → EntersElsewhere (word_met s.rules names is_trailing waiting position word h).1
word_enters s names true waiting position word h off is = tt
word_enters s names false waiting position word h off is = other_enters s (subcommand_met names waiting word) waiting position word h off is

positional_stops : (c : List Rule) (taker : Option Rule) (word : Text) (w : Walk) (h : Held) → StopsElsewhere w.stopped → StopsElsewhere (to_positional c taker word w h).stopped
positional_stops c None word w h is = is
positional_stops c (Some a) word w h is = tt

step_stops : (c : List Rule) (word : Text) (w : Walk) (h : Held) (step : Step) → StopsElsewhere w.stopped → EntersElsewhere step
    → StopsElsewhere (after_step c word w h step).stopped
step_stops c word w h (next waiting) is enters = is
step_stops c word w h (trailing position) is enters = is
step_stops c word w h (subcommand name) is enters = enters
step_stops c word w h value is enters = positional_stops c _ word w h is

turn_stops : (s : Shape) (names : Names) (stopped : Option (Text × List Text)) (w : Walk) (word : Text) → s.disable_help_subcommand ≡ false
    → StopsElsewhere w.stopped → StopsElsewhere stopped
    → (if is_some stopped then [] else or_else (word_fault s names w.is_trailing w.waiting word w.held)
    (step_fault s w.position (word_met s.rules names w.is_trailing w.waiting w.position word w.held).0 (word_met s.rules names w.is_trailing w.waiting w.position word w.held).1)) ≡ []
    → StopsElsewhere (walked_from s.rules names stopped w word).stopped
turn_stops s names (Some p) w word off before is passed = is
turn_stops s names None w word off before is passed =
    step_stops s.rules word w _ _ before
    (word_enters s names w.is_trailing w.waiting w.position word w.held off (first_is_none (word_fault s names w.is_trailing w.waiting word w.held) _ passed))

walk_stops : (s : Shape) (names : Names) (w : Walk) (words : List Text) → s.disable_help_subcommand ≡ false → StopsElsewhere w.stopped
    → walk_fault s names w words ≡ [] → StopsElsewhere (fold (walked s.rules names) w words).stopped
unfolding walk_fault walked
walk_stops s names w [] off is passed = is
walk_stops s names w (word ∷ rest) off is passed =
    walk_stops s names (walked s.rules names w word) rest off
    (turn_stops s names w.stopped w word off is is (first_is_none _ _ passed)) (second_is_none (turn_fault s names w word) _ passed)

wants_command : (has wants_help wants_argument : Bool) → check_kinds (not has && wants_help) (not has && true) wants_argument ≡ [] → has ≡ true
wants_command true wants_help wants_argument passed = refl
wants_command false true wants_argument passed = absurd (cc)
wants_command false false wants_argument passed = absurd (cc)

-- the name of what was entered is one of these
abbrev NamesOneOf : List Text → Option Text → Type 0
NamesOneOf [] named = ⊥
NamesOneOf (name ∷ names) named = (named ≡ Some name) ⊎ NamesOneOf names named

-- what is found first is this, or what is found behind it
one_more : {X Y : Type 0} (enter : X → Y) (name : Y → Text) (is_first : Bool) (first : Text) (others : List Text) (x : X) (rest : Option X) → name (enter x) ≡ first
    → (is_some (option_map enter rest) ≡ true → NamesOneOf others (option_map name (option_map enter rest)))
    → is_some (option_map enter (cond (is_first || false) (Some x) rest)) ≡ true
    → NamesOneOf (first ∷ others) (option_map name (option_map enter (cond (is_first || false) (Some x) rest)))
one_more enter name true first others x rest is behind some = inl (ap Some is)
one_more enter name false first others x rest is behind some = inr (behind some)

-- nothing is found behind the last
no_more : {X Y : Type 0} (enter : X → Y) (name : Y → Text) (is_last : Bool) (x : X) → is_last ≡ false → is_some (option_map enter (cond (is_last || false) (Some x) None)) ≡ true
    → NamesOneOf [] (option_map name (option_map enter (cond (is_last || false) (Some x) None)))
no_more enter name true x other some = absurd (true≢false other)
no_more enter name false x other some = absurd (true≢false (sym some))

is_false : (b : Bool) → (b ≡ true → ⊥) → b ≡ false
is_false true never = absurd (never refl)
is_false false never = refl

not_equal : (a b : Text) → (a ≢ b) → bytes_eq a b ≡ false
not_equal a b differ = is_false (bytes_eq a b) (λ same. differ ((bytes_eq-Decides a b).0 same))

-- a command that was entered is one of the program's own, where the walk has not stopped at `help`
entered_named : (stop : Option (Text × List Text)) → StopsElsewhere stop → is_some (entered (built program_app) stop) ≡ true
    → NamesOneOf commands (option_map (λ p. p.0) (entered (built program_app) stop))
entered_named None elsewhere some = absurd (true≢false (sym some))
entered_named (Some stop) elsewhere some =
    let rows = λ (s : Shape). rows_at s stop.1 in
    let name = λ (p : Text × List Row). p.0 in
    let is = λ (word : Text). bytes_eq word stop.0 in
    let other : bytes_eq (codes "help") stop.0 ≡ false = not_equal _ _ (λ same. elsewhere (sym same)) in
    let from_trace : List Text = codes "trace" ∷ [] in
    let from_conform : List Text = codes "conform" ∷ from_trace in
    let from_test : List Text = codes "test" ∷ from_conform in
    let from_why : List Text = codes "why" ∷ from_test in
    let from_explore : List Text = codes "explore" ∷ from_why in
    let from_draw : List Text = codes "draw" ∷ from_explore in
    let from_explain : List Text = codes "explain" ∷ from_draw in
    let from_run : List Text = codes "run" ∷ from_explain in
    let from_check : List Text = codes "check" ∷ from_run in
    let from_serial : List Text = codes "serial" ∷ from_check in
    let from_replay : List Text = codes "replay" ∷ from_serial in
    one_more rows name (is (codes "replay")) (codes "replay") from_serial _ _ refl
    (one_more rows name (is (codes "serial")) (codes "serial") from_check _ _ refl
    (one_more rows name (is (codes "check")) (codes "check") from_run _ _ refl
    (one_more rows name (is (codes "run")) (codes "run") from_explain _ _ refl
    (one_more rows name (is (codes "explain")) (codes "explain") from_draw _ _ refl
    (one_more rows name (is (codes "draw")) (codes "draw") from_explore _ _ refl
    (one_more rows name (is (codes "explore")) (codes "explore") from_why _ _ refl
    (one_more rows name (is (codes "why")) (codes "why") from_test _ _ refl
    (one_more rows name (is (codes "test")) (codes "test") from_conform _ _ refl
    (one_more rows name (is (codes "conform")) (codes "conform") from_trace _ _ refl
    (one_more rows name (is (codes "trace")) (codes "trace") [] _ _ refl
    (no_more rows name (is (codes "help")) _ other))))))))))) some

-- one level that clap refuses nowhere was walked to its end and has met the command that it wants
level_passed : (s : Shape) (names : Names) (h : Held) (words : List Text) (has : Bool) (below : Kinds) → s.subcommand_required ≡ true
    → level_fault s names h words has below ≡ [] → (walk_fault s names (walk_from h) words ≡ []) × (has ≡ true)
level_passed s names h words has below required passed =
    let end = (walk s.rules names h words).held in
    let walked_all = walk_fault s names (walk_from h) words in
    let settled_all = settle_fault s.rules s.args_override_self end in
    let defaults = defaults_fault (settled s.rules end).rows s.rules in
    let checks = check_fault s (finished s.rules end) has in
    let behind_walk = second_is_none walked_all (or_else below (or_else settled_all (or_else defaults checks))) passed in
    let behind_below = second_is_none below (or_else settled_all (or_else defaults checks)) behind_walk in
    let behind_settled = second_is_none settled_all (or_else defaults checks) behind_below in
    let checked : checks ≡ [] = second_is_none defaults checks behind_settled in (
      first_is_none walked_all (or_else below (or_else settled_all (or_else defaults checks))) passed,
      wants_command has (s.arg_required_else_help && not (list_any (λ r. explicit_source r.source) (finished s.rules end)))
          (not (s.subcommand_negates_reqs && has) && list_any (λ a. a.required && not (is_given a.id (finished s.rules end))) s.rules)
          (rw required at checked),
    )

pub command_entered : (words : List Text) → fault_of program_app words ≡ [] → NamesOneOf commands (option_map (λ (p : Text × List Row). p.0) (subcommand_of program_app words))
command_entered words passed =
    let all = built program_app in
    let stop = (walk all.top.rules (names_of all) nothing_held (argument_words program_app words)).stopped in
    let level = level_passed all.top (names_of all) nothing_held (argument_words program_app words) (is_some (entered all stop)) (entered_fault all stop) refl passed in
    entered_named stop (walk_stops all.top (names_of all) (walk_from nothing_held) (argument_words program_app words) refl tt level.0) level.1

never_none : (names : List Text) → NamesOneOf names None → ⊥
never_none [] one = one
never_none (name ∷ names) one = elim one [
  | inl same ↦ cc
  | inr later ↦ never_none names later
]

listed : (names : List Text) (name : Text) → NamesOneOf names (Some name) → IsOneOf names name
listed [] name one = one
listed (first ∷ names) name one = elim one [
  | inl same ↦ inl (same_Some _ _ same)
  | inr later ↦ inr (listed names name later)
]

some_found : (names : List Text) (found : Option (Text × List Row)) → NamesOneOf names (option_map (λ p. p.0) found) → (p : Text × List Row) × (found ≡ Some p) × IsOneOf names p.0
some_found names None one = absurd (never_none names one)
some_found names (Some p) one = (p, refl, listed names p.0 one)

-- words that clap refuses nowhere name a command
pub command_found : (words : List Text) → fault_of program_app words ≡ [] → (p : Text × List Row) × (subcommand_of program_app words ≡ Some p) × IsOneOf commands p.0
command_found words passed = some_found commands (subcommand_of program_app words) (command_entered words passed)

module _ {Z : Type 0} where
  found_at : (o : Option (Box SubCommand Z)) (name : Text) (rows : List Row) → Some name ≡ option_map (λ b. (out-SubCommand (box_value b)).name.now) o
      → Some rows ≡ option_map (λ p. p.1) (subcommand_rows o) → subcommand_rows o ≡ Some (name, rows)
  found_at None name rows named has = absurd (cc)
  found_at (Some b) name rows named has = ap₂ (λ (n : Text) (rs : List Row). Some (n, rs)) (sym (same_Some _ _ named)) (sym (same_Some _ _ has))

  none_at : (o : Option (Box SubCommand Z)) → None ≡ option_map (λ b. (out-SubCommand (box_value b)).name.now) o → subcommand_rows o ≡ None
  none_at None none = refl
  none_at (Some b) none = absurd (cc)

-- the rows that a parse found are those of the words
rows_are : (a : App) (words : List Text) (m : ArgMatches) → a ≡ program_app → HasMatchesOf a words m → subcommand_rows (out-ArgMatches m).subcommand ≡ subcommand_of program_app words
rows_are a words m is matches = (matches (ap is_simple is ∙ refl)).1 ∙ ap (λ (b : App). subcommand_of b words) is

-- the command that a parse found is the one that the words name
pub words_found : (a : App) (words : List Text) (m : ArgMatches) (name : Text) (rows : List Row) → a ≡ program_app → HasMatchesOf a words m
    → Some name ≡ subcommand_name_of m → Some rows ≡ option_map (λ p. p.1) (subcommand_rows (out-ArgMatches m).subcommand) → subcommand_of program_app words ≡ Some (name, rows)
words_found a words m name rows is matches named has =
    sym (rows_are a words m is matches) ∙ found_at (out-ArgMatches m).subcommand name rows named has

-- where clap refuses the words nowhere, a parse has found a command
pub none_entered : (a : App) (words : List Text) (m : ArgMatches) → a ≡ program_app → HasMatchesOf a words m → None ≡ subcommand_name_of m → fault_of program_app words ≡ [] → ⊥
none_entered a words m is matches none passed =
    let found = command_found words passed in
    let nothing : subcommand_of program_app words ≡ None = sym (rows_are a words m is matches) ∙ none_at (out-ArgMatches m).subcommand none in
    absurd (true≢false (sym (ap is_some found.1) ∙ ap is_some nothing))

-- a parse that succeeds has no fault
pub none_refused : (a : App) (words : List Text) → a ≡ program_app → (is_simple_and_free a ≡ true → fault_of a words ≡ []) → fault_of program_app words ≡ []
none_refused a words is passed = sym (ap (λ (b : App). fault_of b words) is) ∙ passed (ap is_simple_and_free is ∙ refl)

-- a parse that fails has a fault of the words, or memory was refused
pub failed_by : (a : App) (words : List Text) (found : ErrorKind) → a ≡ program_app
    → (is_simple_and_free a ≡ true → (found ≡ OutOfMemory) ⊎ IsAmong found (fault_of a words)) → (found ≡ OutOfMemory) ⊎ IsAmong found (fault_of program_app words)
failed_by a words found is fails = subst (λ (b : App). (found ≡ OutOfMemory) ⊎ IsAmong found (fault_of b words)) is (fails (ap is_simple_and_free is ∙ refl))

-- the truth that is read of a flag's text
pub flag_read : (E : Type 0) (text : Option Text) (read : Option Bool) → (text ≡ None → read ≡ None) → ((t : Text) → text ≡ Some t → ReadsOne (ParsesBool {E = E}) t read)
    → unwrap_or read false ≡ option_map_or (λ t. bytes_eq t (codes "true")) text false
flag_read E None read none gives = ap (λ (r : Option Bool). unwrap_or r false) (none refl)
flag_read E (Some t) (Some true) none gives = sym ((bytes_eq-Decides t (codes "true")).1 (gives t refl))
flag_read E (Some t) (Some false) none gives = sym (ap (λ (u : Text). bytes_eq u (codes "true")) (gives t refl))
flag_read E (Some t) None none gives = sym (not_equal t (codes "true") (λ same. (gives t refl).1.0 same))

-- what is read of an argument stands in its row
pub gives_first : (own : Found) (name : Text) (word : Option (Bor Text)) → option_map (λ w. w.now) word ≡ first_value own name → Gives name (rows_of own) word
gives_first own name word is = sym (first_value-rows own name) ∙ sym is
