-- Texts in a text of markup.
use Rattle.std.specs.Prelude.{ℕ, List, [], ◌∷◌, ◌==◌, codes, flat_map, if◌then◌else◌}

-- what stands for a byte: a name for & (38), < (60), > (62) and the quotation mark (34), and every other byte itself
abbrev pub escape_of : ℕ → List ℕ
escape_of byte =
    if byte == 38 then codes "&amp;"
    else if byte == 60 then codes "&lt;"
    else if byte == 62 then codes "&gt;"
    else if byte == 34 then codes "&quot;"
    else byte ∷ []

-- what stands for a text
abbrev pub escaped : List ℕ → List ℕ
escaped text = flat_map escape_of text
