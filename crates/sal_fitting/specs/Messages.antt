-- Which messages and joins are typed, where it is said which replies are owed and which tokens waited for.
use Rattle.std.specs.Prelude.{◌≡◌, ℕ, ◌+◌, ◌≤◌, Bool, true, false, ◌&&◌, nat_eq, nat_le, List, [], ◌∷◌, Option, Some, None}
use Rattle.sal_value.specs.declared.value.Sort.{Sort}
use Rattle.sal_value.specs.declared.value.Value.{Value, out-Value}
use Rattle.sal_value.specs.declared.value.Value.TheOpen.{Value-F}
use Rattle.sal_value.specs.Spelling.{is_legal}
use Rattle.sal_mail.specs.declared.constants.TheConstants.{OUTPUT, PRINTLN}
use Rattle.sal_mail.specs.declared.message.Piece.{Piece}
use Rattle.sal_mail.specs.declared.message.Piece.TheVariants.{Known, Token}
use Rattle.sal_mail.specs.declared.message.Reply.{Reply}
use Rattle.sal_mail.specs.declared.message.Target.{Target}
use Rattle.sal_mail.specs.declared.message.Target.TheVariants as target
use Rattle.sal_mail.specs.declared.message.Message.{Message}
use Rattle.sal_mail.specs.declared.message.Join.{Join}
use Rattle.sal_types.specs.declared.signature.Signature.{Signature}
use Rattle.sal_handler.specs.Fits.{fits_sort}
use Rattle.sal_handler.specs.WellFormed.{EachOf}
use Rattle.sal_fitting.specs.Signatures.{Signatures, signature_at, void_sort}

-- ---- prints

-- a text, an int or a boolean
abbrev pub is_printable_form : Value-F Value → Bool
is_printable_form (Value-F.Int n) = true
is_printable_form (Value-F.Bool b) = true
is_printable_form (Value-F.Str text) = true
is_printable_form _ = false

-- a legal one
abbrev pub is_printable : Value → Bool
is_printable v = is_legal v && is_printable_form (out-Value v)

-- no argument, or one that can be printed
abbrev pub may_print : List Value → Bool
may_print [] = true
may_print (v ∷ []) = is_printable v
may_print _ = false

-- `print` or `println` of such
abbrev pub fits_print : ℕ → ℕ → List Value → Bool
fits_print behavior handler args = (nat_eq behavior OUTPUT && nat_le handler PRINTLN) && may_print args

-- ---- arguments

-- `owes` says to whom a reply of a type may be owed, `waits` which tokens have a type.

-- a token of a type, of which each legal value is wanted
pub record IsToken (waits : ℕ → Sort → Type 0) (wants : Value → Bool) (n : ℕ) : Type 0 where
  pub sort : Sort
  pub owed : waits n sort
  pub covers : (v : Value) → fits_sort (Some sort) v ≡ true → wants v ≡ true

-- a wanted value, or such a token
abbrev pub IsPiece : (ℕ → Sort → Type 0) → (Value → Bool) → Piece → Type 0
IsPiece waits wants (Known v) = wants v ≡ true
IsPiece waits wants (Token n) = IsToken waits wants n

-- as many arguments as there are types, each of its own
abbrev pub ArePieces : (ℕ → Sort → Type 0) → List Sort → List Piece → Type 0
ArePieces waits [] [] = Unit {0}
ArePieces waits [] (p ∷ ps) = ⊥
ArePieces waits (s ∷ ss) [] = ⊥
ArePieces waits (s ∷ ss) (p ∷ ps) = IsPiece waits (fits_sort (Some s)) p × ArePieces waits ss ps

-- no argument, or one that can be printed
abbrev pub ArePrintable : (ℕ → Sort → Type 0) → List Piece → Type 0
ArePrintable waits [] = Unit {0}
ArePrintable waits (p ∷ []) = IsPiece waits is_printable p
ArePrintable waits (p ∷ q ∷ ps) = ⊥

-- ---- messages

-- A message to an actor: its arguments are those of its handler, whose result is owed.
pub record IsTypedCallTo (sigs : Signatures) (owes : Reply → Sort → Type 0) (waits : ℕ → Sort → Type 0)
    (m : Message) : Type 0 where
  pub signature : Signature
  pub is : signature_at sigs m.behavior m.handler ≡ Some signature
  pub args : ArePieces waits signature.params m.args
  pub reply : owes m.reply signature.result

-- A message to the output, which replies null.
pub record IsTypedPrint (owes : Reply → Sort → Type 0) (waits : ℕ → Sort → Type 0) (m : Message) : Type 0 where
  pub behavior : m.behavior ≡ OUTPUT
  pub handler : m.handler ≤ PRINTLN
  pub args : ArePrintable waits m.args
  pub reply : owes m.reply void_sort

-- to this target
abbrev pub IsTypedTo : Signatures → (Reply → Sort → Type 0) → (ℕ → Sort → Type 0) → Target → Message → Type 0
IsTypedTo sigs owes waits (target.Actor n) m = IsTypedCallTo sigs owes waits m
IsTypedTo sigs owes waits target.Output m = IsTypedPrint owes waits m

-- to its own
abbrev pub IsTypedMessage : Signatures → (Reply → Sort → Type 0) → (ℕ → Sort → Type 0) → Message → Type 0
IsTypedMessage sigs owes waits m = IsTypedTo sigs owes waits m.target m

-- ---- joins

-- what a join gives: null where it is void, else an array of its items
abbrev pub join_sort : Bool → Sort → Sort
join_sort true item = void_sort
join_sort false item = record { base = item.base; dims = item.dims + 1 }

-- empty, or a legal value of the type
abbrev pub IsSlotOf : Sort → Option Value → Type 0
IsSlotOf item None = Unit {0}
IsSlotOf item (Some v) = fits_sort (Some item) v ≡ true

-- Each slot is owed a value of one type, and the join owes theirs together.
pub record IsTypedJoin (owes : Reply → Sort → Type 0) (slots : Sort → Type 0) (j : Join) : Type 0 where
  pub item : Sort
  pub slot : slots item
  pub places : EachOf (IsSlotOf item) j.places
  pub reply : owes j.reply (join_sort j.void item)
