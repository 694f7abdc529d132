-- What a pen adds, one thing behind another.
use Rattle.std.proofs.Common.{◌≡◌, ℕ, List, [], ◌∷◌, ◌++◌, append_assoc, append-nil, false, flat_map, subst, sym, true}
use Rattle.std.specs.Prelude.{is_ok}
use Rattle.std.proofs.lemmas.Grind.{flat_map-append}
use Rattle.drm_stream.specs.Streams.{SinkState}
use Rattle.drm_engine.specs.Replaying.{Told}
use Rattle.drm_engine.proofs.Pieces.{told_less, told_more}
use Rattle.drm_perfetto.specs.declared.entry.Entry.{Entry}
use Rattle.drm_perfetto.specs.declared.pen.Pen.{Pen}
use Rattle.drm_perfetto.specs.Entries.{text_of}
use Rattle.drm_perfetto.specs.Pens.{Adds, AddsEntries}

-- ---- texts

pub adds_nothing : (pen : Pen) (at : SinkState) → Adds pen at [] pen at
adds_nothing pen at = record { told = λ start before was. subst (λ (t : List ℕ). Told start at pen.told t pen.piece) (sym (append-nil before)) was }

pub adds_more : {a b c : Pen} {p q r : SinkState} {text more : List ℕ} → Adds a p text b q → Adds b q more c r → Adds a p (text ++ more) c r
adds_more {a} {b} {c} {p} {q} {r} {text} {more} one other = record {
  told = λ start before was.
      subst (λ (t : List ℕ). Told start r c.told t c.piece) (append_assoc before text more) (other.told start (before ++ text) (one.told start before was));
}

-- the same text
pub adds_same : {a b : Pen} {p q : SinkState} {text other : List ℕ} → text ≡ other → Adds a p text b q → Adds a p other b q
adds_same {a} {b} {p} {q} {text} {other} same adds = subst (λ (t : List ℕ). Adds a p t b q) same adds

-- a text that was put, and one that was not
pub text_put : (old new : Pen) (from to : SinkState) (text : List ℕ) → is_ok old.told ≡ true → Told from to new.told (old.piece ++ text) new.piece → Adds old from text new to
text_put old new from to text well put = record {
  told = λ start before was. told_more start from to old.told new.told before text old.piece new.piece well was put;
}

pub text_lost : (pen : Pen) (at : SinkState) (text : List ℕ) → is_ok pen.told ≡ false → Adds pen at text pen at
text_lost pen at text lost = record { told = λ start before was. told_less start at pen.told before text pen.piece lost was }

-- ---- entries

pub entries_none : (pen : Pen) (at : SinkState) → AddsEntries pen at [] pen at
entries_none pen at = record { adds = adds_nothing pen at }

pub entries_more : {a b c : Pen} {p q r : SinkState} {entries more : List Entry} → AddsEntries a p entries b q → AddsEntries b q more c r → AddsEntries a p (entries ++ more) c r
entries_more {a} {b} {c} {p} {q} {r} {entries} {more} one other = record {
  adds = adds_same (sym (flat_map-append text_of entries more)) (adds_more one.adds other.adds);
}

pub entries_same : {a b : Pen} {p q : SinkState} {entries other : List Entry} → entries ≡ other → AddsEntries a p entries b q → AddsEntries a p other b q
entries_same {a} {b} {p} {q} {entries} {other} same adds = subst (λ (es : List Entry). AddsEntries a p es b q) same adds

-- the text of one entry is that of a list of it
alone : (entry : Entry) → text_of entry ≡ flat_map text_of (entry ∷ [])
alone entry = sym (append-nil (text_of entry))

pub entry_put : (old new : Pen) (from to : SinkState) (entry : Entry) → is_ok old.told ≡ true → Told from to new.told (old.piece ++ text_of entry) new.piece → AddsEntries old from (entry ∷ []) new to
entry_put old new from to entry well told = record { adds = adds_same (alone entry) (text_put old new from to (text_of entry) well told) }

pub entry_lost : (pen : Pen) (at : SinkState) (entries : List Entry) → is_ok pen.told ≡ false → AddsEntries pen at entries pen at
entry_lost pen at entries lost = record { adds = text_lost pen at (flat_map text_of entries) lost }
