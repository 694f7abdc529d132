-- The text of a legend.
use Rattle.std.specs.Prelude.{ℕ, List, ◌++◌, ◌+◌, ◌*◌, ◌/◌, ◌%◌, codes, decimal, flat_map}
use Rattle.std.specs.List.{enumerate_from}
use Rattle.drm_picture.specs.declared.bars.Look.{Look}
use Rattle.drm_picture.specs.declared.bars.Look.TheVariants as look
use Rattle.drm_svg.specs.Bars.{class_of_entity}
use Rattle.drm_svg.specs.Signs.{shape_of, sign_of_look, word_of_look, word_of_sign}
use Rattle.drm_draw.specs.declared.keys.TheConstants.{EDGE, END, HALT, HALT_RECT, KEY, KEYS, KEY_END, KEY_TEXT, LINE, LOCK, RECT, SIGN, SIGN_END, SKIPPED, SWATCH, WAIT, WAITING}
use Rattle.drm_draw.specs.declared.legend.Key.{Key}
use Rattle.drm_draw.specs.declared.legend.Key.TheVariants as key

-- what an edge and a sign say
abbrev pub word_of_outcome : Look → List ℕ
word_of_outcome look.Open = codes "not ended"
word_of_outcome look.Ended = codes "ended"
word_of_outcome look.Good = codes "done"
word_of_outcome look.Cancelled = codes "skipped"
word_of_outcome look.Stopped = codes "stopped"
word_of_outcome look.Guilty = codes "guilty"

-- what the bar of an entity that was stopped says
abbrev pub word_of_halt : Look → List ℕ
word_of_halt look.Guilty = codes "guilty entity"
word_of_halt _ = codes "cancelled entity"

-- what a key says
abbrev pub word_of_key : Key → List ℕ
word_of_key (key.Entity entity) = codes "entity " ++ decimal entity
word_of_key (key.Outcome look) = word_of_outcome look
word_of_key key.Skipped = codes "to be skipped"
word_of_key (key.Halt look) = word_of_halt look
word_of_key key.Lock = codes "held by a context"
word_of_key key.Waiting = codes "waits for the buffer"
word_of_key key.Wait = codes "waits for an earlier job"
word_of_key key.Credits = codes "credits in use"
word_of_key key.End = codes "left at the end"
word_of_key (key.Sign sign) = word_of_sign sign

-- how an edge with its sign is drawn
unfoldable pub edge_sample : Look → List ℕ
edge_sample look = EDGE.now ++ word_of_look look ++ RECT.now

unfoldable pub outcome_sample : Look → List ℕ
outcome_sample look = edge_sample look ++ SIGN.now ++ sign_of_look look ++ SIGN_END.now

-- how what it explains is drawn, ten pixels wide and eight high
unfoldable pub sample_of : Key → List ℕ
sample_of (key.Entity entity) = SWATCH.now ++ class_of_entity entity ++ RECT.now
sample_of (key.Outcome look) = outcome_sample look
sample_of key.Skipped = SKIPPED.now
sample_of (key.Halt look) = HALT.now ++ word_of_look look ++ HALT_RECT.now
sample_of key.Lock = LOCK.now
sample_of key.Waiting = WAITING.now
sample_of key.Wait = WAIT.now
sample_of key.Credits = LINE.now
sample_of key.End = END.now
sample_of (key.Sign sign) = shape_of sign

-- the place of a key
unfoldable pub key_place : ℕ → ℕ → List ℕ
key_place column row = KEY.now ++ decimal column ++ codes "0 " ++ decimal row ++ codes "0)'>"

-- a key in a column and a row
unfoldable pub key_text : ℕ → ℕ → Key → List ℕ
key_text column row key = key_place column row ++ sample_of key ++ KEY_TEXT.now ++ word_of_key key ++ KEY_END.now

-- the key with this place, so many in a row, eleven columns to each, from this row on
abbrev pub key_at : ℕ → ℕ → ℕ → Key → List ℕ
key_at wide top place key = key_text (11 * (place % wide)) (top + place / wide) key

-- keys, so many in a row, from this row on
abbrev pub each_key_text : ℕ → ℕ → List Key → List ℕ
each_key_text wide top keys = flat_map (λ p. key_at wide top p.0 p.1) (enumerate_from 0 keys)

-- a legend with these keys
abbrev pub keys_text : ℕ → ℕ → List Key → List ℕ
keys_text wide top keys = KEYS.now ++ each_key_text wide top keys ++ codes "</g>\n"
