-- How rows are told.
use Rattle.std.specs.Prelude.{List, ℕ, ◌++◌, codes}
use Rattle.drm_explain.specs.Rows.{Row}

-- a row in one line
abbrev pub line_of : Row → List ℕ
line_of row = row.form ++ codes ": " ++ row.meaning ++ codes "\n"

-- a row in lines
abbrev pub text_of : Row → List ℕ
text_of row =
    row.form ++ codes "\n"
    ++ codes "How you got here: " ++ row.meaning ++ codes "\n"
    ++ codes "What to do: " ++ row.remedy ++ codes "\n"
    ++ codes "In the kernel: " ++ row.kernel ++ codes "\n"
    ++ row.details
