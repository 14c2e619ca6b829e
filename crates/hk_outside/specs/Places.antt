-- Objects that are handed out and back.
use Rattle.std.specs.Prelude.{◌≡◌, Option, Some, None, []}
use Rattle.hk_base.specs.Memory.{bytes_written}
use Rattle.hk_base.specs.declared.memory.MemorySink.{MemorySink}
use Rattle.hk_outside.specs.declared.place.Place.{Place}
use Rattle.hk_outside.specs.declared.place.Place.TheVariants.{Inside, Outside, Back}

-- the object where it wasn't handed out yet, and where it was handed back
abbrev pub inside_of : {T : Type 0} → Place T → Option T
inside_of (Inside x) = Some x
inside_of Outside = None
inside_of (Back x) = None

abbrev pub back_of : {T : Type 0} → Place T → Option T
back_of (Inside x) = None
back_of Outside = None
back_of (Back x) = Some x

-- a fact of the object where it wasn't handed out yet
abbrev pub IfInside : {T : Type 0} → (T → Type 0) → Place T → Type 0
IfInside P place = (x : _) → place ≡ Inside x → P x

-- the sink that takes what is written is empty
abbrev pub HasEmpty : {A : Type 0} → A × MemorySink → Type 0
HasEmpty pair = bytes_written pair.1 ≡ []
