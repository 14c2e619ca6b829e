-- What reads of a link say.
use Rattle.std.specs.Prelude.{⊤, ℕ}
use Rattle.hk_outside.specs.declared.link.LinkGot.{LinkGot}
use Rattle.hk_outside.specs.declared.link.LinkGot.TheVariants.{Bytes, End, NotYet, Failed}

-- a fact of the number of bytes that came
abbrev pub IfCame : LinkGot → (ℕ → Type 0) → Type 0
IfCame (Bytes n) P = P n
IfCame End P = ⊤
IfCame NotYet P = ⊤
IfCame Failed P = ⊤

-- a fact where none came
abbrev pub UnlessCame : LinkGot → Type 0 → Type 0
UnlessCame (Bytes n) P = ⊤
UnlessCame End P = P
UnlessCame NotYet P = P
UnlessCame Failed P = P

-- a fact where the end was met
abbrev pub OnLast : LinkGot → Type 0 → Type 0
OnLast (Bytes n) P = ⊤
OnLast End P = P
OnLast NotYet P = ⊤
OnLast Failed P = ⊤

-- a fact where nothing is there yet
abbrev pub OnNotYet : LinkGot → Type 0 → Type 0
OnNotYet (Bytes n) P = ⊤
OnNotYet End P = ⊤
OnNotYet NotYet P = P
OnNotYet Failed P = ⊤

-- a fact where reading failed
abbrev pub OnBroken : LinkGot → Type 0 → Type 0
OnBroken (Bytes n) P = ⊤
OnBroken End P = ⊤
OnBroken NotYet P = ⊤
OnBroken Failed P = P

-- a fact where it didn't
abbrev pub UnlessBroken : LinkGot → Type 0 → Type 0
UnlessBroken (Bytes n) P = P
UnlessBroken End P = P
UnlessBroken NotYet P = P
UnlessBroken Failed P = ⊤

-- a fact where the bytes or their end were met
abbrev pub IfRead : LinkGot → Type 0 → Type 0
IfRead (Bytes n) P = P
IfRead End P = P
IfRead NotYet P = ⊤
IfRead Failed P = ⊤
