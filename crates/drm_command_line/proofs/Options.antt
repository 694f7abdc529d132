-- What an option of `run` has, where clap refuses the words nowhere.
use Rattle.std.proofs.Common.{◌≡◌, ℕ, zero, suc, Bool, true, false, cond, List, [], ◌∷◌, ◌++◌, length, drop, Option, Some, None, refl, ap, ◌∙◌, sym, codes, option_map, subst, true≢false}
use Rattle.std.specs.Prelude.{⊤, option_and_then, ◌&&◌, ◌||◌, not, is_some, if◌then◌else◌, fold, find, IfSome, encode_utf8, slice_get}
use Rattle.std.specs.Option.{option_map_or}
use Rattle.std.specs.Str.{bytes_eq, chars}
use Rattle.clap.specs.declared.builder.action.ArgAction.TheVariants.{Set}
use Rattle.clap.specs.declared.builder.value_parser.Reading.{Reading}
use Rattle.clap.specs.declared.builder.value_parser.ValueParser.TheVariants as vp
use Rattle.clap.specs.declared.error.kind.ErrorKind.TheVariants as kind
use Rattle.clap.specs.declared.parser.matches.ValueSource.TheVariants.{CommandLine}
use Rattle.clap.specs.Facts.{explicit_source}
use Rattle.clap.specs.Faults.{action_fault, bundle_step_fault, check_fault, defaults_fault, entered_fault, fault_of, flag_word_fault, flags_fault, level_fault, long_fault, option_fault, other_fault, positional_fault, react_fault, repeat_fault, settle_fault, short_fault, step_fault, turn_fault, use_fault, values_fault, walk_fault, word_fault}
use Rattle.clap.specs.Kinds.{Kinds, check_kinds, or_else, range_kinds, value_kinds, values_kinds}
use Rattle.clap.specs.Lexer.{long_of, short_of}
use Rattle.clap.specs.Simple.{Shape, argument_words, built, built_leaf, entered, filled, inherited, label_of, names_of, rows_at, subcommand_of, with_index}
use Rattle.clap.specs.Takes.{is_given}
use Rattle.clap.specs.Values.{IsUnsignedIn, read_as}
use Rattle.clap.specs.ValueTests.{accepts}
use Rattle.clap.specs.Walk.{Held, Names, Outcome, Row, Rule, Step, Text, Waiting, Walk, after_flag, after_step, answers_to, arg_by_id, arg_by_index, arg_by_long, arg_by_short, at_row, attached_value, bundle_met, bundle_step, default_rows, done, finished, flag_met, has_row, idle, is_pending, long_met, long_or_other, more_values, next, nothing_held, one_of, option, option_met, option_word, plain, plain_word, positional, reacted, reading_by, refused, row_text, rows_after, settled, settled_rows, short_met, short_or_plain, subcommand, subcommand_met, subcommand_or_other, takes_several, takes_values, to_positional, trailing, used, used_as, used_by_id, value, values_or_missing, waits, walk, walk_from, walked, walked_from, with_default, without, word_met}
use Rattle.std.proofs.lemmas.Option.{same_Some}
use Rattle.std.proofs.lemmas.Slice.Eq.{bytes_eq-Decides}
use Rattle.clap.proofs.ValueTestLemmas.{accepts-Accepts}
use Rattle.drm_command_line.proofs.Entered.{first_is_none, second_is_none}
use Rattle.drm_command_line.specs.CommandLine.{most_submitters, most_turns, number_rule, program_app, run_app}
use Rattle.drm_command_line.specs.Known.{HasNumbers}

-- ---- lists of which each element is good

-- each element has the property
abbrev Each : {X : Type 0} → (X → Type 0) → List X → Type 0
Each P [] = ⊤
Each P (x ∷ xs) = P x × Each P xs

-- where the elements of two lists are good, so are those of both in turn
each_append : {X : Type 0} (P : X → Type 0) (xs ys : List X) → Each P xs → Each P ys → Each P (xs ++ ys)
each_append P [] ys before after = after
each_append P (x ∷ xs) ys before after = (before.0, each_append P xs ys before.1 after)

-- the first element or what is found in the rest is good
first_or_rest : {X : Type 0} (P : X → Type 0) (here : Bool) (x : X) (rest : Option X) → P x → IfSome rest P → IfSome (cond here (Some x) rest) P
first_or_rest P true x rest is later = is
first_or_rest P false x rest is later = later

-- what is found in a list of good elements is good
found_is : {X : Type 0} (P : X → Type 0) (test : X → Bool) (xs : List X) → Each P xs → IfSome (find test xs) P
found_is P test [] each = tt
found_is P test (x ∷ xs) each = first_or_rest P (test x) x (find test xs) each.0 (found_is P test xs each.1)

-- ---- rows that stay good

-- one row changed, or kept with the rows that come after it
changed_row : (Good : Row → Type 0) (here : Bool) (changed : List Row) (r : Row) (rs others : List Row) → Each Good changed → Good r → Each Good rs → Each Good others
    → Each Good (if here then changed ++ rs else r ∷ others)
changed_row Good true changed r rs others new is rest other = each_append Good changed rs new rest
changed_row Good false changed r rs others new is rest other = (is, other)

-- the rows with one of them changed stay good, where the change keeps a row good
at_row_keeps : (Good : Row → Type 0) (id : Text) (change : Row → List Row) (missing rows : List Row) → ((r : Row) → Good r → Each Good (change r)) → Each Good missing
    → Each Good rows → Each Good (at_row id change missing rows)
at_row_keeps Good id change missing [] changes new each = new
at_row_keeps Good id change missing (r ∷ rs) changes new each =
    changed_row Good (bytes_eq r.id id) (change r) r rs (at_row id change missing rs) (changes r each.0) each.0 each.1 (at_row_keeps Good id change missing rs changes new each.1)

-- a text is read, and it has the property
abbrev ReadAs : (Text → Type 0) → Option Text → Type 0
ReadAs Q read = (t : Text) × (read ≡ Some t) × Q t

-- from a row of this name a text is read that has the property
abbrev Reads : Text → (Text → Type 0) → Row → Type 0
Reads name Q r = bytes_eq r.id name ≡ true → ReadAs Q (row_text r)

-- more values after the first leave the text that is read
longer_read : (Q : Text → Type 0) (how : Reading) (values more : List Text) → ReadAs Q (option_map (read_as how) (slice_get values 0))
    → ReadAs Q (option_map (read_as how) (slice_get (values ++ more) 0))
longer_read Q how [] more read = absurd (cc (read.1))
longer_read Q how (v ∷ vs) more read = read

-- a use of an argument that is set keeps the rows good, where its own values are
set_keeps : (name : Text) (Q : Text → Type 0) (id : Text) (how : Reading) (values : List Text) (rows : List Row)
    → (bytes_eq id name ≡ true → ReadAs Q (option_map (read_as how) (slice_get values 0))) → Each (Reads name Q) rows
    → Each (Reads name Q) (used_as Set id how values rows)
set_keeps name Q id how values rows own each =
    let kept : Each (Reads name Q) (without id rows) = at_row_keeps (Reads name Q) id (λ r. []) [] rows (λ r is. tt) tt each in
    at_row_keeps (Reads name Q) id (more_values CommandLine values) (record {
      id = id;
      values = values;
      count = None;
      source = Some CommandLine;
      reading = how;
    } ∷ []) (without id rows) (λ r is. (λ same. longer_read Q r.reading r.values values (is same), tt)) (own, tt) kept

-- ---- uses of an argument

-- a use of the argument that does not fail keeps the rows good
abbrev Keeps : (Row → Type 0) → Bool → Rule → Type 0
Keeps Good again a = (values : List Text) (rows : List Row) → use_fault again a values rows ≡ [] → Each Good rows → Each Good (used a values rows)

-- an option that is filled in, with a number up to the most
abbrev number_built : Text → ℕ → Rule
number_built name most = with_index 1 (filled (number_rule name most))

-- a text that does not fail is accepted
accepted : (most : ℕ) (text : Text) → value_kinds false (vp.Unsigned 1 most) text ≡ [] → IsUnsignedIn 1 most text
accepted most text passed = accepts-Accepts false (vp.Unsigned 1 most) text (passes (accepts false (vp.Unsigned 1 most) text) passed)
  where
    passes : (test : Bool) → (if test then [] else kind.ValueValidation ∷ []) ≡ [] → test ≡ true
    passes true is = refl
    passes false is = absurd (cc)

-- the values of a use that does not fail begin with an accepted one
first_accepted : (again : Bool) (name : Text) (most : ℕ) (values : List Text) (rows : List Row) → use_fault again (number_built name most) values rows ≡ []
    → ReadAs (IsUnsignedIn 1 most) (slice_get (values_or_missing (number_built name most) values) 0)
first_accepted again name most [] rows passed = absurd (cc)
first_accepted again name most (v ∷ vs) rows passed =
    let a = number_built name most in
    let acted = second_is_none (range_kinds 1 1 (length (v ∷ vs))) (action_fault Set again a (v ∷ vs) rows) passed in
    let valued = second_is_none (repeat_fault again name rows) (values_fault a (v ∷ vs)) acted in
    (v, refl, accepted most v (first_is_none (value_kinds false (vp.Unsigned 1 most) v) (values_kinds false (vp.Unsigned 1 most) vs) valued))

-- a use of the option keeps it that its texts are accepted
own_keeps : (again : Bool) (name : Text) (most : ℕ) → Keeps (Reads name (IsUnsignedIn 1 most)) again (number_built name most)
own_keeps again name most values rows passed each =
    let read = first_accepted again name most values rows passed in
    set_keeps name (IsUnsignedIn 1 most) name _ (values_or_missing (number_built name most) values) rows
    (λ same. as_read (slice_get (values_or_missing (number_built name most) values) 0) read) each
  where
    as_read : (o : Option Text) → ReadAs (IsUnsignedIn 1 most) o → ReadAs (IsUnsignedIn 1 most) (option_map (λ t. t) o)
    as_read None read = read
    as_read (Some t) read = read

-- a use of another option keeps it too
other_keeps : (again : Bool) (name : Text) (Q : Text → Type 0) (id : Text) (most : ℕ) → bytes_eq id name ≡ false → Keeps (Reads name Q) again (number_built id most)
other_keeps again name Q id most differ values rows passed each =
    set_keeps name Q id _ (values_or_missing (number_built id most) values) rows (λ same. absurd (cc (same, differ))) each

-- ---- the walk keeps the rows good

-- an argument that is found by its id and used keeps the rows good
found_keeps : (Good : Row → Type 0) (again : Bool) (found : Option Rule) (values : List Text) (rows : List Row) → IfSome found (Keeps Good again)
    → option_map_or (λ a. use_fault again a values rows) found [] ≡ [] → Each Good rows → Each Good (used_by_id found values rows)
found_keeps Good again None values rows keeps passed each = each
found_keeps Good again (Some a) values rows keeps passed each = keeps values rows passed each

module _ (Good : Row → Type 0) (c : List Rule) (again : Bool) (keeps : Each (Keeps Good again) c) where
  -- what is pending is used
  pending_keeps : (pending : Option (Text × List Text)) (rows : List Row)
      → option_map_or (λ p. option_map_or (λ a. use_fault again a p.1 rows) (arg_by_id c p.0) []) pending [] ≡ [] → Each Good rows
      → Each Good (settled_rows c pending rows)
  pending_keeps None rows passed each = each
  pending_keeps (Some p) rows passed each =
      found_keeps Good again (arg_by_id c p.0) p.1 rows (found_is (Keeps Good again) (λ a. bytes_eq a.id p.0) c keeps) passed each

  -- what is held is settled
  settled_keeps : (h : Held) → settle_fault c again h ≡ [] → Each Good h.rows → Each Good (settled c h).rows
  settled_keeps h passed each = pending_keeps h.pending h.rows passed each

  -- an argument is used, after what is pending
  reacted_keeps : (a : Rule) (values : List Text) (h : Held) → Keeps Good again a → react_fault c again a values h ≡ [] → Each Good h.rows
      → Each Good (reacted c a values h).rows
  reacted_keeps a values h kept passed each =
      let before = settled_keeps h (first_is_none (settle_fault c again h) (use_fault again a values (settled c h).rows) passed) each in
      kept values (settled c h).rows (second_is_none (settle_fault c again h) (use_fault again a values (settled c h).rows) passed) before

  -- an option is met
  option_keeps : (a : Rule) (v : Option Text) (h : Held) → Keeps Good again a → option_fault c again a v h ≡ [] → Each Good h.rows
      → Each Good (option_met c a v h).0.rows
  option_keeps a (Some v) h kept passed each = reacted_keeps a (v ∷ []) h kept passed each
  option_keeps a None h kept passed each = settled_keeps h passed each

  -- a flag or an option is met by its long name
  named_keeps : (takes : Bool) (a : Rule) (v : Option Text) (h : Held) → Keeps Good again a
      → (if takes then option_fault c again a v h else (if is_some v then kind.TooManyValues ∷ [] else react_fault c again a [] h)) ≡ [] → Each Good h.rows
      → Each Good (if takes then option_met c a v h else flag_met c a v h).0.rows
  named_keeps true a v h kept passed each = option_keeps a v h kept passed each
  named_keeps false a (Some v) h kept passed each = absurd (cc)
  named_keeps false a None h kept passed each = reacted_keeps a [] h kept passed each

  -- a long word is met
  long_keeps : (found : Option Rule) (v : Option Text) (h : Held) → IfSome found (Keeps Good again) → long_fault c again found v h ≡ [] → Each Good h.rows
      → Each Good (long_met c found v h).0.rows
  long_keeps None v h kept passed each = absurd (cc)
  long_keeps (Some a) v h kept passed each = named_keeps (takes_values a) a v h kept passed each

  -- the rest of a bundle keeps the rows good
  abbrev GoesOn : (Held → Kinds) → (Held → Held × Outcome) → Type 0
  GoesOn fault met = (h : Held) → fault h ≡ [] → Each Good h.rows → Each Good (met h).0.rows

  -- a flag or an option is met by its short name
  letter_keeps : (takes : Bool) (a : Rule) (rest : Text) (h : Held) (fault : Held → Kinds) (met : Held → Held × Outcome) → Keeps Good again a → GoesOn fault met
      → (if takes then option_fault c again a (attached_value rest) h else or_else (react_fault c again a [] h) (fault (reacted c a [] h))) ≡ [] → Each Good h.rows
      → Each Good (if takes then option_met c a (attached_value rest) h else met (reacted c a [] h)).0.rows
  letter_keeps true a rest h fault met kept on passed each = option_keeps a (attached_value rest) h kept passed each
  letter_keeps false a rest h fault met kept on passed each =
      let here = first_is_none (react_fault c again a [] h) (fault (reacted c a [] h)) passed in
      on (reacted c a [] h) (second_is_none (react_fault c again a [] h) (fault (reacted c a [] h)) passed) (reacted_keeps a [] h kept here each)

  -- a character of a bundle is met
  short_keeps : (found : Option Rule) (rest : Text) (h : Held) (fault : Held → Kinds) (met : Held → Held × Outcome) → IfSome found (Keeps Good again) → GoesOn fault met
      → short_fault c again found rest h fault ≡ [] → Each Good h.rows → Each Good (short_met c found rest h met).0.rows
  short_keeps None rest h fault met kept on passed each = absurd (cc)
  short_keeps (Some a) rest h fault met kept on passed each = letter_keeps (takes_values a) a rest h fault met kept on passed each

  -- a character of a bundle is met or passed over
  bundle_step_keeps : (x : Option ℕ) (flags : Text) (skip : ℕ) (so_far : Outcome) (h : Held) (fault : Text → ℕ → Held → Kinds)
      (met : Text → ℕ → Outcome → Held → Held × Outcome) → ((left : Text) (less : ℕ) (outcome : Outcome) → GoesOn (fault left less) (met left less outcome))
      → bundle_step_fault c again x flags skip h fault ≡ [] → Each Good h.rows → Each Good (bundle_step c x flags skip so_far h met).0.rows
  bundle_step_keeps None flags skip so_far h fault met on passed each = each
  bundle_step_keeps (Some x) flags zero so_far h fault met on passed each =
      let rest = drop (length (encode_utf8 x)) flags in
      short_keeps (arg_by_short c x) rest h (fault rest 0) (met rest 0 done) (found_is (Keeps Good again) _ c keeps) (on rest 0 done) passed each
  bundle_step_keeps (Some x) flags (suc skip) so_far h fault met on passed each = on (drop (length (encode_utf8 x)) flags) skip so_far h passed each

  -- a bundle is met
  bundle_keeps : (k : ℕ) (flags : Text) (skip : ℕ) (so_far : Outcome) (h : Held) → flags_fault c again k flags skip h ≡ [] → Each Good h.rows
      → Each Good (bundle_met c k flags skip so_far h).0.rows
  unfolding flags_fault bundle_met
  bundle_keeps zero flags skip so_far h passed each = each
  bundle_keeps (suc k) flags skip so_far h passed each =
      bundle_step_keeps (slice_get (chars flags) 0) flags skip so_far h (flags_fault c again k) (bundle_met c k) (λ left less outcome held. bundle_keeps k left less outcome held)
      passed each

  -- a value of an option waits for its turn
  value_keeps : (found : Option Rule) (id word : Text) (h : Held) → Each Good h.rows → Each Good (option_word found id word h).0.rows
  value_keeps None id word h each = each
  value_keeps (Some a) id word h each = each

  -- a word that is no flag leaves the rows
  plain_keeps : (waiting : Waiting) (word : Text) (h : Held) → Each Good h.rows → Each Good (plain_word c waiting word h).0.rows
  plain_keeps idle word h each = each
  plain_keeps (option id) word h each = value_keeps (arg_by_id c id) id word h each
  plain_keeps positional word h each = each

  -- so does what follows a flag
  flag_keeps : (waiting : Waiting) (word : Text) (h : Held) (outcome : Outcome) → Each Good h.rows → Each Good (after_flag c waiting word h outcome).0.rows
  flag_keeps waiting word h done each = each
  flag_keeps waiting word h (waits id) each = each
  flag_keeps waiting word h plain each = plain_keeps waiting word h each
  flag_keeps waiting word h refused each = plain_keeps waiting word h each

  -- a word of short flags, or a plain one
  short_word_keeps : (waiting : Waiting) (word : Text) (flags : Option Text) (h : Held)
      → option_map_or (λ letters. flags_fault c again (length letters) letters h.skip (record h { skip = 0 })) flags [] ≡ [] → Each Good h.rows
      → Each Good (short_or_plain c waiting word flags h).0.rows
  short_word_keeps waiting word (Some flags) h passed each =
      flag_keeps waiting word _ _ (bundle_keeps (length flags) flags h.skip plain (record h { skip = 0 }) passed each)
  short_word_keeps waiting word None h passed each = plain_keeps waiting word h each

  -- a word of a long flag, or another
  long_word_keeps : (waiting : Waiting) (word : Text) (parts : Option (Text × Option Text)) (h : Held) → flag_word_fault c again parts word h ≡ [] → Each Good h.rows
      → Each Good (long_or_other c waiting word parts h).0.rows
  long_word_keeps waiting word (Some p) h passed each =
      flag_keeps waiting word _ _ (long_keeps (arg_by_long c p.0) p.1 h (found_is (Keeps Good again) _ c keeps) passed each)
  long_word_keeps waiting word None h passed each = short_word_keeps waiting word (short_of word) h passed each

  -- two dashes leave the rows
  dashes_keep : (is_dashes : Bool) (waiting : Waiting) (position : ℕ) (word : Text) (h : Held)
      → (if is_dashes then [] else flag_word_fault c again (long_of word) word h) ≡ [] → Each Good h.rows
      → Each Good (if is_dashes then (h, trailing position) else long_or_other c waiting word (long_of word) h).0.rows
  dashes_keep true waiting position word h passed each = each
  dashes_keep false waiting position word h passed each = long_word_keeps waiting word (long_of word) h passed each

  -- a word for a positional settles what is pending, or adds to it
  positional_keeps : (adds : Bool) (h : Held) → (if adds then [] else settle_fault c again h) ≡ [] → Each Good h.rows
      → Each Good (if adds then h else settled c h).rows
  positional_keeps true h passed each = each
  positional_keeps false h passed each = settled_keeps h passed each

  -- the word goes to the positional that is found
  to_positional_keeps : (taker : Option Rule) (word : Text) (w : Walk) (h : Held) (stray : Kinds)
      → option_map_or (λ a. positional_fault c again a h) taker stray ≡ [] → Each Good h.rows → Each Good (to_positional c taker word w h).held.rows
  to_positional_keeps None word w h stray passed each = each
  to_positional_keeps (Some a) word w h stray passed each = positional_keeps (is_pending a h.pending && takes_several a) h passed each

module _ (Good : Row → Type 0) (s : Shape) (names : Names) (keeps : Each (Keeps Good s.args_override_self) s.rules) where
  -- a word that names a command, or another
  named_word_keeps : (met : Option Text) (waiting : Waiting) (position : ℕ) (word : Text) (h : Held) → other_fault s met word h ≡ [] → Each Good h.rows
      → Each Good (subcommand_or_other s.rules met waiting position word h).0.rows
  named_word_keeps (Some name) waiting position word h passed each = each
  named_word_keeps None waiting position word h passed each =
      dashes_keep Good s.rules s.args_override_self keeps (bytes_eq word (45 ∷ 45 ∷ [])) waiting position word h passed each

  -- a word before it goes to a positional
  word_keeps : (is_trailing : Bool) (waiting : Waiting) (position : ℕ) (word : Text) (h : Held) → word_fault s names is_trailing waiting word h ≡ [] → Each Good h.rows
      → Each Good (word_met s.rules names is_trailing waiting position word h).0.rows
  word_keeps true waiting position word h passed each = each
  word_keeps false waiting position word h passed each = named_word_keeps (subcommand_met names waiting word) waiting position word h passed each

  -- the step that a word takes
  step_keeps : (word : Text) (w : Walk) (h : Held) (step : Step) → step_fault s w.position h step ≡ [] → Each Good h.rows
      → Each Good (after_step s.rules word w h step).held.rows
  step_keeps word w h (next waiting) passed each = each
  step_keeps word w h (trailing position) passed each = each
  step_keeps word w h (subcommand name) passed each = each
  step_keeps word w h value passed each =
      to_positional_keeps Good s.rules s.args_override_self keeps (arg_by_index s.rules w.position) word w h _ passed each

  -- one more word
  turn_keeps : (stopped : Option (Text × List Text)) (w : Walk) (word : Text)
      → (if is_some stopped then [] else or_else (word_fault s names w.is_trailing w.waiting word w.held)
      (step_fault s w.position (word_met s.rules names w.is_trailing w.waiting w.position word w.held).0 (word_met s.rules names w.is_trailing w.waiting w.position word w.held).1)) ≡ []
      → Each Good w.held.rows → Each Good (walked_from s.rules names stopped w word).held.rows
  turn_keeps (Some p) w word passed each = each
  turn_keeps None w word passed each =
      step_keeps word w _ _ (second_is_none (word_fault s names w.is_trailing w.waiting word w.held) _ passed)
      (word_keeps w.is_trailing w.waiting w.position word w.held (first_is_none (word_fault s names w.is_trailing w.waiting word w.held) _ passed) each)

  -- all the words
  walk_keeps : (w : Walk) (words : List Text) → walk_fault s names w words ≡ [] → Each Good w.held.rows → Each Good (fold (walked s.rules names) w words).held.rows
  unfolding walk_fault walked
  walk_keeps w [] passed each = each
  walk_keeps w (word ∷ rest) passed each =
      walk_keeps (walked s.rules names w word) rest (second_is_none (turn_fault s names w word) _ passed) (turn_keeps w.stopped w word (first_is_none _ _ passed) each)

-- ---- after the walk

-- either of two equal lists of rows
same_rows : (used_before : Bool) (rows : List Row) → (if used_before then rows else rows) ≡ rows
same_rows true rows = refl
same_rows false rows = refl

-- an argument with no default leaves the rows
no_default : (rows : List Row) (a : Rule) → a.defaults ≡ [] → with_default rows a ≡ rows
no_default rows a none = ap (λ values. if has_row a.id rows then rows else default_rows a.id (reading_by a) values rows) none ∙ same_rows (has_row a.id rows) rows

-- arguments with no default leave the rows
no_defaults : (c : List Rule) (rows : List Row) → Each (λ a. a.defaults ≡ []) c → fold with_default rows c ≡ rows
no_defaults [] rows none = refl
no_defaults (a ∷ rest) rows none = ap (λ kept. fold with_default kept rest) (no_default rows a none.0) ∙ no_defaults rest rows none.1

-- one level that does not fail ends with good rows
level_keeps : (Good : Row → Type 0) (s : Shape) (words : List Text) → Each (Keeps Good s.args_override_self) s.rules → Each (λ a. a.defaults ≡ []) s.rules
    → level_fault s [] nothing_held words false [] ≡ [] → Each Good (rows_after s.rules [] words)
level_keeps Good s words keeps none passed =
    let end = (walk s.rules [] nothing_held words).held in
    let walked_all = walk_fault s [] (walk_from nothing_held) words in
    let settled_all = settle_fault s.rules s.args_override_self end in
    let after = or_else (defaults_fault (settled s.rules end).rows s.rules) (check_fault s (finished s.rules end) false) in
    let walk_passed = first_is_none walked_all (or_else settled_all after) passed in
    let settle_passed = first_is_none settled_all after (second_is_none walked_all (or_else settled_all after) passed) in
    let rows = settled_keeps Good s.rules s.args_override_self keeps end settle_passed (walk_keeps Good s [] keeps (walk_from nothing_held) words walk_passed tt) in
    subst (Each Good) (sym (no_defaults s.rules (settled s.rules end).rows none)) rows

-- one level that does not fail passes the last checks
level_checked : (s : Shape) (words : List Text) → level_fault s [] nothing_held words false [] ≡ [] → check_fault s (rows_after s.rules [] words) false ≡ []
level_checked s words passed =
    let end = (walk s.rules [] nothing_held words).held in
    let walked_all = walk_fault s [] (walk_from nothing_held) words in
    let settled_all = settle_fault s.rules s.args_override_self end in
    let defaults = defaults_fault (settled s.rules end).rows s.rules in
    let checks = check_fault s (finished s.rules end) false in
    let behind_walk = second_is_none walked_all (or_else settled_all (or_else defaults checks)) passed in
    second_is_none defaults checks (second_is_none settled_all (or_else defaults checks) behind_walk)

-- ---- what is read of an option that is given

-- from the row that is found, a text is read
given_here : (id : Text) (Q : Text → Type 0) (here : Bool) (r : Row) (later : Option Row) → (here ≡ true → ReadAs Q (row_text r))
    → (option_map_or (λ (row : Row). explicit_source row.source) later false ≡ true → ReadAs Q (option_and_then row_text later))
    → option_map_or (λ (row : Row). explicit_source row.source) (cond here (Some r) later) false ≡ true
    → ReadAs Q (option_and_then row_text (cond here (Some r) later))
given_here id Q true r later own others given = own refl
given_here id Q false r later own others given = others given

-- of an option that is given, a text is read
given_read : (id : Text) (Q : Text → Type 0) (rows : List Row) → Each (Reads id Q) rows → is_given id rows ≡ true → ReadAs Q (one_of id rows)
given_read id Q [] each given = absurd (cc)
given_read id Q (r ∷ rs) each given =
    given_here id Q (bytes_eq r.id id) r (find (λ row. bytes_eq row.id id) rs) each.0 (λ is. given_read id Q rs each.1 is) given

-- two options that the last checks want are given
both_given : (first second : Bool) → check_kinds false false (not first || (not second || false)) ≡ [] → (first ≡ true) × (second ≡ true)
both_given true true passed = (refl, refl)
both_given true false passed = absurd (cc)
both_given false true passed = absurd (cc)
both_given false false passed = absurd (cc)

-- ---- the command that runs

-- the command that runs, as it is built
abbrev run_built : Shape
run_built = built_leaf (inherited program_app.top run_app.top)

-- a level of it that does not fail reads both options
run_reads : (words : List Text) → level_fault run_built [] nothing_held words false [] ≡ []
    → ReadAs (IsUnsignedIn 1 most_submitters) (one_of (codes "threads") (rows_after run_built.rules [] words))
    × ReadAs (IsUnsignedIn 1 most_turns) (one_of (codes "turns") (rows_after run_built.rules [] words))
run_reads words passed =
    let rows = rows_after run_built.rules [] words in
    let given = both_given (is_given (codes "threads") rows) (is_given (codes "turns") rows) (level_checked run_built words passed) in
    let threads = level_keeps (Reads (codes "threads") (IsUnsignedIn 1 most_submitters)) run_built words (
      own_keeps false (codes "threads") most_submitters,
      (
        other_keeps false (codes "threads") (IsUnsignedIn 1 most_submitters) (codes "turns") most_turns refl,
        (λ values held used_up each. each, tt),
      ),
    ) (refl, (refl, (refl, tt))) passed in
    let turns = level_keeps (Reads (codes "turns") (IsUnsignedIn 1 most_turns)) run_built words (
      other_keeps false (codes "turns") (IsUnsignedIn 1 most_turns) (codes "threads") most_submitters refl,
      (
        own_keeps false (codes "turns") most_turns,
        (λ values held used_up each. each, tt),
      ),
    ) (refl, (refl, (refl, tt))) passed in
    (given_read (codes "threads") (IsUnsignedIn 1 most_submitters) rows threads given.0, given_read (codes "turns") (IsUnsignedIn 1 most_turns) rows turns given.1)

-- a name that differs from the wanted one is not it
differs : (name wanted : Text) → bytes_eq name wanted ≡ false → Some name ≡ Some wanted → ⊥
differs name wanted other same = true≢false (sym ((bytes_eq-Decides name wanted).1 (same_Some _ _ same)) ∙ other)

-- what has the wanted name stands behind the first, which has another
skipped : {X : Type 0} (name : X → Text) (wanted : Text) (x : X) (is_first : Bool) (rest found : Option X) → bytes_eq (name x) wanted ≡ false
    → (option_map name rest ≡ Some wanted → rest ≡ found) → option_map name (cond is_first (Some x) rest) ≡ Some wanted → cond is_first (Some x) rest ≡ found
skipped name wanted x true rest found other behind named = absurd (differs (name x) wanted other named)
skipped name wanted x false rest found other behind named = behind named

-- it is the first, where nothing behind has the name
met : {X : Type 0} (name : X → Text) (wanted : Text) (x : X) (is_first : Bool) (rest : Option X) → (option_map name rest ≡ Some wanted → rest ≡ Some x)
    → option_map name (cond is_first (Some x) rest) ≡ Some wanted → cond is_first (Some x) rest ≡ Some x
met name wanted x true rest behind named = refl
met name wanted x false rest behind named = behind named

-- nothing has it
unmet : {X : Type 0} (name : X → Text) (wanted : Text) (found : Option X) → option_map name None ≡ Some wanted → None ≡ found
unmet name wanted found named = absurd (cc)

-- a command that is found passes its level, where it is the command that runs
found_reads : (found : Option Shape) (words : List Text) → found ≡ Some run_built
    → option_map_or (λ s. level_fault s [] nothing_held words false []) found [] ≡ []
    → ReadAs (IsUnsignedIn 1 most_submitters) (option_and_then (λ p. one_of (codes "threads") p.1) (option_map (λ s. rows_at s words) found))
    × ReadAs (IsUnsignedIn 1 most_turns) (option_and_then (λ p. one_of (codes "turns") p.1) (option_map (λ s. rows_at s words) found))
found_reads found words is passed =
    subst (λ (o : Option Shape). ReadAs (IsUnsignedIn 1 most_submitters) (option_and_then (λ p. one_of (codes "threads") p.1) (option_map (λ s. rows_at s words) o))
    × ReadAs (IsUnsignedIn 1 most_turns) (option_and_then (λ p. one_of (codes "turns") p.1) (option_map (λ s. rows_at s words) o))) (sym is)
    (run_reads words (subst (λ (o : Option Shape). option_map_or (λ s. level_fault s [] nothing_held words false []) o [] ≡ []) is passed))

-- the name of a command is kept by its rows
named_found : (found : Option Shape) (words : List Text) (name : Text) → option_map (λ p. p.0) (option_map (λ s. rows_at s words) found) ≡ Some name
    → option_map (λ (s : Shape). s.name) found ≡ Some name
named_found None words name is = is
named_found (Some s) words name is = is

-- where the words stop at the command that runs, both options are read
stopped_reads : (stop : Option (Text × List Text)) → entered_fault (built program_app) stop ≡ [] → option_map (λ p. p.0) (entered (built program_app) stop) ≡ Some (codes "run")
    → ReadAs (IsUnsignedIn 1 most_submitters) (option_and_then (λ p. one_of (codes "threads") p.1) (entered (built program_app) stop))
    × ReadAs (IsUnsignedIn 1 most_turns) (option_and_then (λ p. one_of (codes "turns") p.1) (entered (built program_app) stop))
stopped_reads None passed named = absurd (cc)
stopped_reads (Some stop) passed named =
    let found = find (λ s. answers_to stop.0 (label_of s)) (built program_app).subs in
    let label = λ (s : Shape). s.name in
    let is = λ (word : Text). bytes_eq word stop.0 || false in
    found_reads found stop.1
    (skipped label (codes "run") _ (is (codes "replay")) _ _ refl
    (skipped label (codes "run") _ (is (codes "serial")) _ _ refl
    (skipped label (codes "run") _ (is (codes "check")) _ _ refl
    (met label (codes "run") _ (is (codes "run")) _
    (skipped label (codes "run") _ (is (codes "explain")) _ _ refl
    (skipped label (codes "run") _ (is (codes "draw")) _ _ refl
    (skipped label (codes "run") _ (is (codes "explore")) _ _ refl
    (skipped label (codes "run") _ (is (codes "why")) _ _ refl
    (skipped label (codes "run") _ (is (codes "test")) _ _ refl
    (skipped label (codes "run") _ (is (codes "conform")) _ _ refl
    (skipped label (codes "run") _ (is (codes "trace")) _ _ refl
    (skipped label (codes "run") _ (is (codes "help")) _ _ refl
    (unmet label (codes "run") _))))))))))))
    (named_found found stop.1 (codes "run") named)) passed

-- where clap refuses the words nowhere and finds `run`, both options are there with a text that their parser accepts
options_are_read : (words : List Text) → fault_of program_app words ≡ [] → option_map (λ p. p.0) (subcommand_of program_app words) ≡ Some (codes "run")
    → ReadAs (IsUnsignedIn 1 most_submitters) (option_and_then (λ p. one_of (codes "threads") p.1) (subcommand_of program_app words))
    × ReadAs (IsUnsignedIn 1 most_turns) (option_and_then (λ p. one_of (codes "turns") p.1) (subcommand_of program_app words))
options_are_read words passed named =
    let all = built program_app in
    let end = walk all.top.rules (names_of all) nothing_held (argument_words program_app words) in
    let walked_all = walk_fault all.top (names_of all) (walk_from nothing_held) (argument_words program_app words) in
    stopped_reads end.stopped (first_is_none (entered_fault all end.stopped) _ (second_is_none walked_all _ passed)) named

-- so both are in the rows of the command
pub numbers_are_there : (words : List Text) (name : Text) (rows : List Row) → fault_of program_app words ≡ [] → subcommand_of program_app words ≡ Some (name, rows) → name ≡ codes "run"
    → HasNumbers rows
numbers_are_there words name rows passed found named =
    let options = options_are_read words passed (ap (option_map (λ (p : Text × List Row). p.0)) found ∙ ap Some named) in
    let threads = subst (λ (o : Option (Text × List Row)). ReadAs (IsUnsignedIn 1 most_submitters) (option_and_then (λ p. one_of (codes "threads") p.1) o)) found options.0 in
    let turns = subst (λ (o : Option (Text × List Row)). ReadAs (IsUnsignedIn 1 most_turns) (option_and_then (λ p. one_of (codes "turns") p.1) o)) found options.1 in
    (threads, turns)
