-- What a reader answers: what the definition says, or that memory ran out.
use Rattle.std.specs.Prelude.{◌≡◌, IsOk, Result, Ok, Err, Option, Some, None}
use Rattle.drm_types.specs.declared.spec.BadSpec.{BadSpec}
use Rattle.drm_text.specs.declared.fault.Fault.{Fault}
use Rattle.drm_text.specs.declared.fault.Fault.TheVariants.{Text, Device}
use Rattle.drm_text.specs.declared.fault.TextFault.{TextFault}
use Rattle.drm_text.specs.declared.fault.Position.{Position}
use Rattle.drm_text.specs.declared.fault.ReadError.{ReadError}
use Rattle.drm_text.specs.declared.fault.ReadError.TheVariants as errors

infixl 10 ◌>>=◌
abbrev pub ◌>>=◌ : {A B : Type 0} → Result A Fault → (A → Result B Fault) → Result B Fault
(Ok x) >>= f = f x
(Err e) >>= f = Err e

-- the value, or the fault where there is none
abbrev pub or_fault : {A : Type 0} → Option A → Fault → Result A Fault
or_fault (Some x) fault = Ok x
or_fault None fault = Err fault

-- what a step that needs no memory returned, seen by view
abbrev pub Reads : {X Y : Type 0} → (X → Y) → Result X Fault → Result Y Fault → Type 0
Reads view (Ok x) read = read ≡ Ok (view x)
Reads view (Err f) read = read ≡ Err f

-- the same of a step that may lack memory
abbrev pub Fails : {Y : Type 0} → ReadError → Result Y Fault → Type 0
Fails errors.Memory read = Unit {0}
Fails (errors.Fault f) read = read ≡ Err f

abbrev pub Gives : {X Y : Type 0} → (X → Y) → Result X ReadError → Result Y Fault → Type 0
Gives view (Ok x) read = read ≡ Ok (view x)
Gives view (Err e) read = Fails e read

-- where memory was refused, the text has no fault up to there
abbrev pub LacksMemoryAlone : {X Y : Type 0} → Result X ReadError → Result Y Fault → Type 0
LacksMemoryAlone (Ok x) read = Unit {0}
LacksMemoryAlone (Err errors.Memory) read = IsOk read
LacksMemoryAlone (Err (errors.Fault f)) read = Unit {0}

-- a fault of the word at this position
abbrev pub fault_at : Position → TextFault → Fault
fault_at position what = Text position.line position.column what

-- nothing, or the device's fault where there is one
abbrev pub or_bad_device : Option BadSpec → Result (Unit {0}) Fault
or_bad_device None = Ok tt
or_bad_device (Some bad) = Err (Device bad)

infixl 10 ◌>>+◌
abbrev pub ◌>>+◌ : {A B : Type 0} → Option A → (A → Option B) → Option B
(Some x) >>+ f = f x
None >>+ f = None
