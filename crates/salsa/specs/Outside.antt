-- What files and sinks mean, and what their calls do.
use Rattle.std.specs.Prelude.{◌≡◌, ◌≤◌, ◌+◌, ◌-◌, ◌^◌, ℕ, false, List, ◌++◌, take, min, Option, Some, None, if◌then◌else◌}
use Rattle.std.specs.Str.{bytes_eq}

-- a count of faults has risen, or stands at its end
abbrev pub Rose : ℕ → ℕ → Type 0
Rose before now = min (before + 1) (2 ^ 64 - 1) ≤ now

-- files by name
abbrev pub Held : Type 0
Held = List ℕ → Option (List ℕ)

-- what is held under each name, where it is told, and a count of faults for each name, which never falls
pub record FilesState : Type 0 where
  pub held : Option Held
  pub faults : List ℕ → ℕ

-- the bytes taken, where they are told, and a count of faults, which never falls
pub record SinkState : Type 0 where
  pub taken : Option (List ℕ)
  pub faults : ℕ

-- all that lies outside the program
pub record Outside : Type 0 where
  pub files : FilesState
  pub out : SinkState
  pub err : SinkState

-- the files, `out` and `err`
abbrev pub outside : FilesState → SinkState → SinkState → Outside
outside files out err = record { files = files; out = out; err = err }

-- a fact about the bytes under a name, where they are told and there
abbrev pub OnFile : Option Held → List ℕ → (List ℕ → Type 0) → Type 0
OnFile None name P = Unit {0}
OnFile (Some held) name P = (whole : List ℕ) × ((held name ≡ Some whole) × P whole)

-- the bytes stand under the name, and all else is as before
abbrev pub Wrote : Option Held → List ℕ → List ℕ → Option Held → Type 0
Wrote None name bytes now = now ≡ None
Wrote (Some held) name bytes now = (new : Held) × ((now ≡ Some new) × ((other : List ℕ) → new other ≡ (if bytes_eq name other then Some bytes else held other)))

-- all other names hold what they held
abbrev pub OthersKept : Option Held → List ℕ → Option Held → Type 0
OthersKept None name now = now ≡ None
OthersKept (Some held) name now = (new : Held) × ((now ≡ Some new) × ((other : List ℕ) → bytes_eq name other ≡ false → new other ≡ held other))

-- what a sink has taken grew by these bytes, where it tells
abbrev pub Grew : Option (List ℕ) → Option (List ℕ) → List ℕ → Type 0
Grew None now bytes = now ≡ None
Grew (Some old) now bytes = now ≡ Some (old ++ bytes)

-- it grew by a prefix of these bytes
abbrev pub GrewByPrefix : Option (List ℕ) → Option (List ℕ) → List ℕ → Type 0
GrewByPrefix before now bytes = (n : ℕ) × Grew before now (take n bytes)
