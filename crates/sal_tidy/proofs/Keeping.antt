-- What keeps actors tidy.
use Rattle.std.proofs.Common.{◌≡◌, ℕ, ◌≤◌, ◌<◌, Bool, true, false, cond, if◌then◌else◌, List, [], ◌∷◌, map, Some, None, sym, subst, ◌∙◌, arith}
use Rattle.std.specs.Prelude.{All, filter, filter_map}
use Rattle.std.specs.List.{cons_option}
use Rattle.std.proofs.lemmas.List.Elements.{All-nil, All-cons, All-head, All-tail, All-append, All-filter, All-map, All-weaker}
use Rattle.sal_value.specs.declared.name.Name.{Name}
use Rattle.sal_value.specs.declared.value.Value.{Value}
use Rattle.sal_value.specs.Spelling.{is_legal}
use Rattle.sal_ast.specs.declared.program.Program.{Program}
use Rattle.sal_mail.specs.declared.message.Message.{Message}
use Rattle.sal_mail.specs.declared.message.Join.{Join}
use Rattle.sal_mail.specs.declared.message.Reply.{Reply}
use Rattle.sal_mail.specs.declared.message.Reply.TheVariants.{Nobody, Tok, Place, Outside}
use Rattle.sal_mail.specs.declared.effects.Effects.{Effects}
use Rattle.sal_mail.specs.Message.{with_reply, with_slot, is_full}
use Rattle.sal_handler.specs.declared.turn.Outcome.TheVariants.{Done}
use Rattle.sal_handler.specs.Calls.{Call, Meaning}
use Rattle.sal_handler.specs.Handler.{handle}
use Rattle.sal_handler.specs.WellFormed.{EachOf}
use Rattle.sal_source.specs.Runners.{CallFits, StandsFor, behavior_or_migrate}
use Rattle.sal_effects.specs.Numbers.{NumbersRise}
use Rattle.sal_effects.proofs.Rising.{numbers_in_order}
use Rattle.sal_effects.proofs.Signing.{own_signed}
use Rattle.sal_book.specs.Book.{Book, new_book, is_waiting, is_open, has_number, join_after, book_after_legal, message_numbers, join_numbers}
use Rattle.sal_book.specs.Laws.{AreMadeBy}
use Rattle.sal_book.proofs.Makers.{makers_stay}
use Rattle.sal_resident.specs.declared.resident.Resident.{Resident}
use Rattle.sal_tidy.specs.Tidy.{IsTidy}
use Rattle.sal_tidy.specs.Laws.{NewcomersAreTidy, TidinessIsOfTheBook, TidyActorsTakeReplies, RepliesLeaveActorsTidy, HandlersLeaveActorsTidy, EntersTidily}
use Rattle.sal_tidy.proofs.Entering.{may_enter, rise_high, all_of_each}

-- all that waits in the book has numbers below this one
record IsLow (serial : ℕ) (b : Book) : Type 0 where
  pub messages : All (λ m. m.serial < serial) b.messages
  pub joins : All (λ j. j.number < serial) b.joins

new_low : (serial : ℕ) → IsLow serial new_book
new_low serial = record { messages = All-nil (λ m. m.serial < serial); joins = All-nil (λ j. j.number < serial) }

-- ---- new actors

pub newcomers : NewcomersAreTidy
newcomers r new =
    let low = subst (IsLow r.serial) (sym new) (new_low r.serial) in
    record { own = subst (λ (b : Book). AreMadeBy r.name b.messages) (sym new) (All-nil (λ m. m.maker ≡ r.name)); messages_low = low.messages; joins_low = low.joins }

-- ---- the same book

pub of_the_book : TidinessIsOfTheBook
of_the_book r s name book serial tidy =
    let low = subst (λ n. IsLow n s.book) (sym serial) (subst (IsLow r.serial) (sym book) (record { messages = tidy.messages_low; joins = tidy.joins_low })) in
    let own = subst (λ n. AreMadeBy n s.book.messages) (sym name) (subst (λ (b : Book). AreMadeBy r.name b.messages) (sym book) tidy.own) in
    record { own = own; messages_low = low.messages; joins_low = low.joins }

-- ---- replies

owed : (r : Resident) (maker : Name) → IsTidy r → maker ≡ r.name → AreMadeBy maker r.book.messages
owed r maker tidy same = subst (λ n. AreMadeBy n r.book.messages) (sym same) tidy.own

pub take_replies : TidyActorsTakeReplies
take_replies = record { token = λ r maker number tidy same. owed r maker tidy same; place = λ r maker number at tidy same. owed r maker tidy same }

module _ (serial : ℕ) where
  abbrev LowMessage : Message → Type 0
  LowMessage m = m.serial < serial

  abbrev LowJoin : Join → Type 0
  LowJoin j = j.number < serial

  joins_after : (number at : ℕ) (value : Value) (js : List Join) → All LowJoin js → All LowJoin (filter_map (join_after number at value) js)
  joins_after number at value [] low = low
  joins_after number at value (j ∷ js) low = after (has_number number j) (is_full (with_slot at value j)) (All-head LowJoin j js low) (joins_after number at value js (All-tail LowJoin j js low))
    where
      after : (b full : Bool) → j.number < serial → All LowJoin (filter_map (join_after number at value) js)
          → All LowJoin (cons_option (cond b (cond full None (Some (with_slot at value j))) (Some j)) (filter_map (join_after number at value) js))
      after true true first rest = rest
      after true false first rest = All-cons LowJoin (with_slot at value j) (filter_map (join_after number at value) js) first rest
      after false full first rest = All-cons LowJoin j (filter_map (join_after number at value) js) first rest

  legal_low : (reply : Reply) (value : Value) (b : Book) → IsLow serial b → IsLow serial (book_after_legal reply value b)
  legal_low Nobody value b low = low
  legal_low (Outside number) value b low = low
  legal_low (Tok maker number) value b low = record {
    messages = All-filter is_waiting LowMessage (map (with_reply number value) b.messages) (All-map LowMessage (with_reply number value) b.messages low.messages);
    joins = low.joins;
  }
  legal_low (Place maker number at) value b low = record { messages = low.messages; joins = joins_after number at value b.joins low.joins }

  reply_low : (reply : Reply) (value : Value) (b : Book) (c : Bool) → IsLow serial b → IsLow serial (if c then book_after_legal reply value b else b)
  reply_low reply value b true low = legal_low reply value b low
  reply_low reply value b false low = low

pub after_replies : RepliesLeaveActorsTidy
after_replies r reply value tidy =
    let low = reply_low r.serial reply value r.book (is_legal value) (record { messages = tidy.messages_low; joins = tidy.joins_low }) in
    record { own = makers_stay.reply r.name reply value r.book tidy.own; messages_low = low.messages; joins_low = low.joins }

-- ---- handlers

-- what stands for a program does what its handlers do, where the call fits
handled : (m : Meaning) (p : Program) (c : Call) (e : Effects) → StandsFor m p → CallFits m c → m.outcome c ≡ Done e → handle p c ≡ Done e
handled m p c e stands fits done =
    sym (stands.outcome c (record {
      state = sym (stands.fits_state c.behavior c.fields) ∙ fits.state;
      call = sym (stands.fits_call (behavior_or_migrate c.behavior c.handler) c.handler c.args) ∙ fits.call;
    })) ∙ done

-- numbers below one are below a greater one
still_low : {X : Type 0} (f : X → ℕ) (from to : ℕ) (xs : List X) → from ≤ to → All (λ x. f x < from) xs → All (λ x. f x < to) xs
still_low f from to xs le low = All-weaker (λ x. f x < from) (λ x. f x < to) (λ x lt. omega (arith, lt, le)) xs low

entered : (c : Call) (e : Effects) (r : Resident) → NumbersRise c e → EachOf (λ m. m.maker ≡ c.me) e.messages → c.me ≡ r.name → c.serial ≡ r.serial → IsTidy r → EntersTidily e r
entered c e r numbers own me serial tidy = record {
  messages = may_enter c.serial e.serial (message_numbers e.messages) r.book numbers.messages messages_low joins_low;
  joins = may_enter c.serial e.serial (join_numbers e.joins) r.book numbers.joins messages_low joins_low;
  tidy = record {
    own = makers_stay.entry r.name e.messages e.joins r.book tidy.own (subst (λ n. AreMadeBy n e.messages) me (all_of_each (λ m. m.maker ≡ c.me) e.messages own));
    messages_low =
        All-append (λ m. m.serial < e.serial) r.book.messages (filter is_waiting e.messages) (still_low (λ (m : Message). m.serial) c.serial e.serial r.book.messages numbers.serial messages_low)
        (All-filter is_waiting (λ m. m.serial < e.serial) e.messages (rise_high (λ (m : Message). m.serial) c.serial e.serial e.messages numbers.messages));
    joins_low =
        All-append (λ j. j.number < e.serial) r.book.joins (filter is_open e.joins) (still_low (λ (j : Join). j.number) c.serial e.serial r.book.joins numbers.serial joins_low)
        (All-filter is_open (λ j. j.number < e.serial) e.joins (rise_high (λ (j : Join). j.number) c.serial e.serial e.joins numbers.joins));
  };
}
  where
    messages_low : All (λ m. m.serial < c.serial) r.book.messages
    messages_low = subst (λ n. All (λ m. m.serial < n) r.book.messages) (sym serial) tidy.messages_low

    joins_low : All (λ j. j.number < c.serial) r.book.joins
    joins_low = subst (λ n. All (λ j. j.number < n) r.book.joins) (sym serial) tidy.joins_low

pub after_handlers : HandlersLeaveActorsTidy
after_handlers m p c e r stands fits done me serial tidy =
    let does = handled m p c e stands fits done in
    entered c e r (numbers_in_order p c e does) (own_signed p c e does) me serial tidy
