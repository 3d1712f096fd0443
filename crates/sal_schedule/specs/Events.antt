-- How a line tells an event: the kinds of events, and what their words stand for.
use Rattle.std.specs.Prelude.{ℕ, Bool, true, false, ◌&&◌, if◌then◌else◌, List, [], ◌∷◌, codes, Option, Some, None}
use Rattle.std.specs.Option.{option_map, option_and_then}
use Rattle.std.specs.Str.{is_utf8, bytes_eq}
use Rattle.sal_value.specs.declared.name.Uan.{Uan}
use Rattle.sal_value.specs.declared.value.Sort.{Sort}
use Rattle.sal_value.specs.declared.value.Value.{Value}
use Rattle.sal_value.specs.Membership.{belongs}
use Rattle.sal_value.specs.Names.{uan_of}
use Rattle.sal_value.specs.Spelling.{is_legal}
use Rattle.sal_ast.specs.declared.program.Program.{Program}
use Rattle.sal_types.specs.declared.signature.Signature.{Signature}
use Rattle.sal_types.specs.Signatures.{numbers_by_name, signature_at}
use Rattle.sal_literals.specs.Reading.{number_of, schedule_value_of}
use Rattle.sal_events.specs.declared.event.Event.{Event}
use Rattle.sal_events.specs.declared.event.Event.TheVariants as event
use Rattle.sal_schedule.specs.declared.kind.Kind.{Kind}
use Rattle.sal_schedule.specs.declared.kind.Kind.TheVariants as kind

-- ---- first words

unfoldable pub kind_of : List ℕ → Option Kind
kind_of word =
    if bytes_eq word (codes "step") then Some kind.Step
    else if bytes_eq word (codes "push") then Some kind.Push
    else if bytes_eq word (codes "deliver") then Some kind.Deliver
    else if bytes_eq word (codes "clock") then Some kind.Clock
    else if bytes_eq word (codes "move") then Some kind.Move
    else if bytes_eq word (codes "post") then Some kind.Post
    else if bytes_eq word (codes "delete") then Some kind.Delete
    else if bytes_eq word (codes "settle") then Some kind.Settle
    else None

-- ---- the words after the first

-- what a word stands for
pub data Role : Type 0 where
  theatre : Role
  node : Role
  number : Role
  rounds : Role
  universal : Role
  identifier : Role

-- of each kind, in order; a post has values after these
abbrev pub roles_of : Kind → List Role
roles_of kind.Step = theatre ∷ number ∷ []
roles_of kind.Push = node ∷ []
roles_of kind.Deliver = number ∷ []
roles_of kind.Clock = node ∷ number ∷ []
roles_of kind.Move = theatre ∷ universal ∷ theatre ∷ []
roles_of kind.Post = theatre ∷ number ∷ universal ∷ identifier ∷ identifier ∷ []
roles_of kind.Delete = universal ∷ []
roles_of kind.Settle = rounds ∷ []

-- the number that a word writes
abbrev pub or_zero : Option ℕ → ℕ
or_zero None = 0
or_zero (Some n) = n

abbrev pub number_in : List ℕ → ℕ
number_in word = or_zero (number_of word)

-- ---- posts

-- one more, if it and the others are there
abbrev pub cons_some : {A : Type 0} → Option A → Option (List A) → Option (List A)
cons_some None rest = None
cons_some (Some x) None = None
cons_some (Some x) (Some rest) = Some (x ∷ rest)

-- what each item gives, if each gives something
abbrev pub each : {A B : Type 0} → (A → Option B) → List A → Option (List B)
each f [] = Some []
each f (x ∷ xs) = cons_some (f x) (each f xs)

abbrev pub if_legal : Value → Option Value
if_legal v = if is_legal v then Some v else None

-- the legal value that a word writes; its references are universal names
unfoldable pub legal_value_of : List ℕ → Option Value
legal_value_of word = option_and_then if_legal (schedule_value_of word)

-- as many values as there are types, each of its own type
abbrev pub belong : List Sort → List Value → Bool
belong [] [] = true
belong (sort ∷ sorts) (v ∷ vs) = belongs v sort && belong sorts vs
belong _ _ = false

abbrev pub takes : Option Signature → List Value → Bool
takes None values = false
takes (Some s) values = belong s.params values

-- the numbers of the handler with these names
unfoldable pub numbers_of : Program → List ℕ → List ℕ → Option (ℕ × ℕ)
numbers_of p behavior handler = if is_utf8 behavior && is_utf8 handler then numbers_by_name behavior handler p else None

abbrev pub if_taken : Program → List Value → ℕ × ℕ → Option (ℕ × ℕ)
if_taken p values numbers = if takes (signature_at numbers.0 numbers.1 p) values then Some numbers else None

-- the numbers of the handler with these names, if it takes these values
unfoldable pub call_of : Program → List ℕ → List ℕ → List Value → Option (ℕ × ℕ)
call_of p behavior handler values = option_and_then (if_taken p values) (numbers_of p behavior handler)

abbrev pub post_of : ℕ → ℕ → Option Uan → Option (ℕ × ℕ) → List Value → Option Event
post_of k n None call values = None
post_of k n (Some to) None values = None
post_of k n (Some to) (Some call) values = Some (event.Post k n to call.0 call.1 values)

abbrev pub values_or_none : Option (List Value) → List Value
values_or_none None = []
values_or_none (Some values) = values

-- ---- events

abbrev pub step_of : List (List ℕ) → Option Event
step_of (k ∷ i ∷ []) = Some (event.Step (number_in k) (number_in i))
step_of _ = None

abbrev pub push_of : List (List ℕ) → Option Event
push_of (n ∷ []) = Some (event.Push (number_in n))
push_of _ = None

abbrev pub deliver_of : List (List ℕ) → Option Event
deliver_of (p ∷ []) = Some (event.Deliver (number_in p))
deliver_of _ = None

abbrev pub clock_of : List (List ℕ) → Option Event
clock_of (n ∷ ms ∷ []) = Some (event.Clock (number_in n) (number_in ms))
clock_of _ = None

abbrev pub move_of : List (List ℕ) → Option Event
move_of (k ∷ name ∷ j ∷ []) = option_map (λ u. event.Move (number_in k) u (number_in j)) (uan_of name)
move_of _ = None

abbrev pub call_from : Program → List (List ℕ) → Option Event
call_from p (k ∷ n ∷ to ∷ behavior ∷ handler ∷ words) =
    let values = values_or_none (each legal_value_of words) in
    post_of (number_in k) (number_in n) (uan_of to) (call_of p behavior handler values) values
call_from p _ = None

abbrev pub delete_of : List (List ℕ) → Option Event
delete_of (name ∷ []) = option_map event.Delete (uan_of name)
delete_of _ = None

abbrev pub settle_of : List (List ℕ) → Option Event
settle_of (r ∷ []) = Some (event.Settle (number_in r))
settle_of _ = None

-- the event of this kind that these words tell
abbrev pub event_of : Program → Kind → List (List ℕ) → Option Event
event_of p kind.Step words = step_of words
event_of p kind.Push words = push_of words
event_of p kind.Deliver words = deliver_of words
event_of p kind.Clock words = clock_of words
event_of p kind.Move words = move_of words
event_of p kind.Post words = call_from p words
event_of p kind.Delete words = delete_of words
event_of p kind.Settle words = settle_of words
