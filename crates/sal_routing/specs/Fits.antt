-- What fits the program, and what fits a theatre.
use Rattle.std.specs.Prelude.{Bool, true, false, ◌&&◌, not, nat_eq, nat_lt, nat_le, List, [], ◌∷◌, length, is_some}
use Rattle.std.specs.List.{list_all}
use Rattle.std.specs.FinMap as fm
use Rattle.sal_value.specs.declared.name.Name.{Name}
use Rattle.sal_value.specs.declared.name.Name.TheVariants as name
use Rattle.sal_value.specs.declared.name.Uan.{Uan}
use Rattle.sal_value.specs.declared.value.Value.{Value}
use Rattle.sal_value.specs.declared.value.Value.TheVariants as v
use Rattle.sal_value.specs.Spelling.{is_legal}
use Rattle.sal_value.specs.Table.{key_eq}
use Rattle.sal_mail.specs.declared.constants.TheConstants.{OUTPUT, PRINTLN}
use Rattle.sal_mail.specs.declared.message.Piece.{Piece}
use Rattle.sal_mail.specs.declared.message.Piece.TheVariants.{Known, Token}
use Rattle.sal_mail.specs.declared.message.Message.{Message}
use Rattle.sal_mail.specs.declared.message.Join.{Join}
use Rattle.sal_mail.specs.declared.plan.Plan.{Plan}
use Rattle.sal_mail.specs.Message.{known_values, is_for}
use Rattle.sal_handler.specs.Calls.{Meaning}
use Rattle.sal_source.specs.Keys.{name_key}
use Rattle.sal_directory.specs.Nodes.{service_of}
use Rattle.sal_resident.specs.declared.resident.Resident.{Resident}
use Rattle.sal_routing.specs.State.{Theatre}

abbrev pub is_same_name : Name → Name → Bool
is_same_name a b = key_eq (name_key a) (name_key b)

-- ---- messages

-- The call's handler is there, and its values are legal and belong to the parameters.
unfoldable pub fits_call : Meaning → Message → Bool
fits_call p m = p.fits_call m.behavior m.handler (known_values m.args)

-- a text, an int or a boolean
abbrev pub is_printable : Value → Bool
is_printable (v.Str text) = true
is_printable (v.Int n) = true
is_printable (v.Bool b) = true
is_printable _ = false

-- nothing, or one value that can be printed
abbrev pub can_print : List Value → Bool
can_print [] = true
can_print (x ∷ []) = is_printable x
can_print _ = false

-- `print` or `println`
unfoldable pub fits_print : Message → Bool
fits_print m = nat_eq m.behavior OUTPUT && (nat_le m.handler PRINTLN && can_print (known_values m.args))

-- ---- actors

abbrev pub is_here : Name → Theatre → Bool
is_here n t = fm.contains_key t.residents (name_key n)

-- the name's naming service is in the plan
abbrev pub is_served : Plan → Uan → Bool
is_served plan u = is_some (service_of plan u)

abbrev pub is_served_name : Plan → Name → Bool
is_served_name plan (name.Uan u) = is_served plan u
is_served_name plan (name.Anon theatre number) = false
is_served_name plan (name.Outside number) = false

-- Its state belongs to the program, and its name may come here.
unfoldable pub fits_arrival : Meaning → Theatre → Resident → Bool
fits_arrival p t r = p.fits_state r.behavior r.fields && (is_served_name t.plan r.name && not (is_here r.name t))

abbrev pub is_legal_piece : Piece → Bool
is_legal_piece (Known v) = is_legal v
is_legal_piece (Token number) = true

-- a waiting message that its actor made, below the actor's next number
unfoldable pub fits_waiting : Resident → Message → Bool
fits_waiting r m = is_same_name r.name m.maker && (nat_lt m.serial r.serial && (nat_le (length m.args) 16 && list_all is_legal_piece m.args))

abbrev pub fits_join : Resident → Join → Bool
fits_join r j = nat_lt j.number r.serial

unfoldable pub fits_mailbox : Meaning → Resident → Message → Bool
fits_mailbox p r m = is_for r.name m && fits_call p m

-- An actor that moved here, with all that it took along.
unfoldable pub fits_move : Meaning → Theatre → Resident → Bool
fits_move p t r =
    fits_arrival p t r
    && (list_all (fits_waiting r) r.book.messages && (list_all (fits_join r) r.book.joins && list_all (fits_mailbox p r) r.mailbox))
