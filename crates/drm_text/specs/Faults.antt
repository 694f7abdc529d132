-- The numbers of faults.
use Rattle.std.specs.Prelude.{ℕ}
use Rattle.drm_text.specs.declared.fault.TextFault.{TextFault}
use Rattle.drm_text.specs.declared.fault.TextFault.TheVariants as what

abbrev pub number_of_fault : TextFault → ℕ
number_of_fault what.Word = 70
number_of_fault what.Number = 71
number_of_fault what.NoSuch = 72
number_of_fault what.Order = 73
number_of_fault what.TooLong = 74
number_of_fault what.NoEnd = 75
number_of_fault what.NotText = 76
number_of_fault what.BadJob = 77
