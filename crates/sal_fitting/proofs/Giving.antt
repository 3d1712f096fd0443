-- What waits stays typed while replies of their types are given.
use Rattle.std.proofs.Common.{◌≡◌, ◌⊎◌, inl, inr, ℕ, zero, suc, Bool, true, false, cond, if◌then◌else◌, List, [], ◌∷◌, ◌++◌, Option, Some, None, refl, sym, ap, subst, ◌∙◌}
use Rattle.std.specs.FinMap as fm
use Rattle.sal_value.specs.declared.name.Name.{Name}
use Rattle.sal_value.specs.declared.value.Sort.{Sort}
use Rattle.sal_value.specs.declared.value.Value.{Value}
use Rattle.sal_value.specs.Membership.{belongs}
use Rattle.sal_value.specs.Spelling.{is_legal}
use Rattle.sal_value.proofs.Keys.{same_names}
use Rattle.sal_mail.specs.declared.message.Reply.{Reply}
use Rattle.sal_mail.specs.declared.message.Reply.TheVariants.{Nobody, Tok, Place, Outside}
use Rattle.sal_mail.specs.declared.message.Message.{Message}
use Rattle.sal_mail.specs.declared.message.Join.{Join}
use Rattle.sal_mail.specs.declared.effects.Answer.{Answer}
use Rattle.sal_mail.specs.declared.effects.Answer.TheVariants as answer
use Rattle.sal_mail.specs.Message.{with_reply, fill_slot, with_slot, is_full, join_value, without_delay}
use Rattle.sal_handler.specs.Fits.{fits_sort}
use Rattle.sal_handler.specs.WellFormed.{EachOf}
use Rattle.sal_handler.proofs.Addresses.{each_append}
use Rattle.sal_source.specs.Table.{TableKey, key_eq, Table, write}
use Rattle.sal_source.specs.Keys.{name_key, made_key, message_key}
use Rattle.sal_source.specs.Configuration.{Waiting}
use Rattle.sal_source.specs.Give.{DueReply, resolve, full_join_reply, owned_join_with_slot, join_after_value, join_replies, give_to, replies_from, outside_answers, give_one, replies_if_legal, answers_if_legal, settle, settle_answers, settle_all, settle_all_answers, settle_bound}
use Rattle.sal_source.specs.Step.{put_messages, put_join, put_joins, full_join_replies, answer_replies}
use Rattle.sal_source.proofs.Tables.{same_words}
use Rattle.sal_source.proofs.Once.{Each, each_written, each_mapped}
use Rattle.sal_source.proofs.Keeping.{same_made, each_weaker}
use Rattle.sal_fitting.specs.Handlers.{IsAnswer}
use Rattle.sal_fitting.specs.Messages.{IsTypedMessage, join_sort, IsSlotOf, IsTypedJoin}
use Rattle.sal_fitting.specs.Signatures.{Signatures}
use Rattle.sal_fitting.proofs.Pieces.{both, message_more, told_typed, collected_typed}

abbrev pub Sorts : Type 0
Sorts = Reply → Option Sort

-- a reply of this type is owed to nobody, or to an address of this type
abbrev pub Owes : Sorts → Reply → Sort → Type 0
Owes sorts r s = (r ≡ Nobody) ⊎ (sorts r ≡ Some s)

-- the tokens of a maker have these types
abbrev pub Waits : Sorts → Name → ℕ → Sort → Type 0
Waits sorts maker n s = sorts (Tok maker n) ≡ Some s

-- and so do the places of a join
abbrev pub Slots : Sorts → Name → ℕ → Sort → Type 0
Slots sorts maker number s = (at : ℕ) → sorts (Place maker number at) ≡ Some s

abbrev pub MessageIn : Signatures → Sorts → TableKey → Message → Type 0
MessageIn sigs sorts key m = IsTypedMessage sigs (Owes sorts) (Waits sorts m.maker) m

pub record JoinIn (sorts : Sorts) (key : TableKey) (j : Name × Join) : Type 0 where
  pub keyed : key ≡ made_key j.0 j.1.number
  pub join : IsTypedJoin (Owes sorts) (Slots sorts j.0 j.1.number) j.1

pub record WaitingIn (sigs : Signatures) (sorts : Sorts) (w : Waiting) : Type 0 where
  pub messages : Each (MessageIn sigs sorts) w.messages
  pub joins : Each (JoinIn sorts) w.joins

-- a reply of its type
pub record GivenIn (sorts : Sorts) (g : DueReply) : Type 0 where
  pub sort : Sort
  pub owes : Owes sorts g.0 sort
  pub belongs : belongs g.1 sort ≡ true

-- an answer of its type
pub record AnswerIn (sorts : Sorts) (x : ℕ × Value) : Type 0 where
  pub sort : Sort
  pub is : sorts (Outside x.0) ≡ Some sort
  pub fits : fits_sort (Some sort) x.1 ≡ true

-- ---- more addresses have types

pub owes_more : (sorts sorts' : Sorts) → ((r : Reply) (s : Sort) → sorts r ≡ Some s → sorts' r ≡ Some s) → (r : Reply) (s : Sort) → Owes sorts r s → Owes sorts' r s
owes_more sorts sorts' f r s (inl e) = inl e
owes_more sorts sorts' f r s (inr e) = inr (f r s e)

pub waiting_more : (sigs : Signatures) (sorts sorts' : Sorts) → ((r : Reply) (s : Sort) → sorts r ≡ Some s → sorts' r ≡ Some s) → (w : Waiting) → WaitingIn sigs sorts w → WaitingIn sigs sorts' w
waiting_more sigs sorts sorts' f w h = record {
  messages = each_weaker (MessageIn sigs sorts) (MessageIn sigs sorts') w.messages (λ key m. message_more sigs (Owes sorts) (Owes sorts') (Waits sorts m.maker) (Waits sorts' m.maker) (owes_more sorts sorts' f) (λ n s. f (Tok m.maker n) s) m.target m) h.messages;
  joins = each_weaker (JoinIn sorts) (JoinIn sorts') w.joins (λ key j x. record {
    keyed = x.keyed;
    join = record { item = x.join.item; slot = λ at. f (Place j.0 j.1.number at) x.join.item (x.join.slot at); places = x.join.places; reply = owes_more sorts sorts' f j.1.reply (join_sort j.1.void x.join.item) x.join.reply };
  }) h.joins;
}

some_same : (s t : Sort) (o : Option Sort) → o ≡ Some s → o ≡ Some t → s ≡ t
some_same s t o e f = let g : Some s ≡ Some t = sym e ∙ f in cc

filled_places : (item : Sort) (value : Value) → fits_sort (Some item) value ≡ true → (at : ℕ) (ps : List (Option Value)) → EachOf (IsSlotOf item) ps → EachOf (IsSlotOf item) (fill_slot at value ps)
filled_places item value e at [] h = tt
filled_places item value e zero (None ∷ ps) h = (e, h.1)
filled_places item value e zero (Some w ∷ ps) h = h
filled_places item value e (suc at) (p ∷ ps) h = (h.0, filled_places item value e at ps h.1)

module _ (sigs : Signatures) (sorts : Sorts) where
  -- ---- one reply

  pub array_typed : (slots : Sort → Type 0) (j : Join) → IsTypedJoin (Owes sorts) slots j → EachOf (GivenIn sorts) (full_join_reply j)
  array_typed slots j h = at (is_full j)
    where
      at : (b : Bool) → EachOf (GivenIn sorts) (cond b ((j.reply, join_value j) ∷ []) [])
      at true = (record { sort = join_sort j.void h.item; owes = h.reply; belongs = collected_typed j h.item h.places }, tt)
      at false = tt

  resolved : (maker : Name) (number : ℕ) (value : Value) (s : Sort) → sorts (Tok maker number) ≡ Some s → fits_sort (Some s) value ≡ true → (key : TableKey) (m : Message) → MessageIn sigs sorts key m → MessageIn sigs sorts key (resolve maker number value m)
  resolved maker number value s o v key m h = at (key_eq (name_key maker) (name_key m.maker)) refl
    where
      at : (b : Bool) → key_eq (name_key maker) (name_key m.maker) ≡ b → MessageIn sigs sorts key (cond b (with_reply number value m) m)
      at true e =
          let same : maker ≡ m.maker = same_names maker m.maker (same_words (name_key maker) (name_key m.maker) e) in
          told_typed (Waits sorts m.maker) number value (λ t w. subst (λ z. fits_sort (Some z) value ≡ true) (some_same s t (sorts (Tok m.maker number)) (ap (λ z. sorts (Tok z number)) (sym same) ∙ o) w) v) sigs (Owes sorts) m.target m h
      at false e = h

  filled_typed : (slots : Sort → Type 0) (at : ℕ) (value : Value) (j : Join) → (h : IsTypedJoin (Owes sorts) slots j) → fits_sort (Some h.item) value ≡ true → IsTypedJoin (Owes sorts) slots (with_slot at value j)
  filled_typed slots at value j h e = record { item = h.item; slot = h.slot; places = filled_places h.item value e at j.places h.places; reply = h.reply }

  module _ (maker : Name) (number at : ℕ) (value : Value) (s : Sort) (o : sorts (Place maker number at) ≡ Some s) (v : fits_sort (Some s) value ≡ true) where
    abbrev key : TableKey
    key = made_key maker number

    one_filled : (x : Name × Join) → JoinIn sorts key x → JoinIn sorts key (owned_join_with_slot at value x)
    one_filled x h =
        let p = same_made maker x.0 number x.1.number h.keyed in
        let same : s ≡ h.join.item = some_same s h.join.item (sorts (Place x.0 x.1.number at)) (sym (λ i. sorts (Place (p.0 i) (p.1 i) at)) ∙ o) (h.join.slot at) in
        record { keyed = h.keyed; join = filled_typed (Slots sorts x.0 x.1.number) at value x.1 h.join (subst (λ z. fits_sort (Some z) value ≡ true) same v) }

    still_open : (f : Option (Name × Join)) → ((x : Name × Join) → f ≡ Some x → JoinIn sorts key x) → (y : Name × Join) → join_after_value at value f ≡ Some y → JoinIn sorts key y
    still_open None h y is = absurd cc
    still_open (Some x) h y is = by (is_full (with_slot at value x.1)) is
      where
        by : (b : Bool) → cond b None (Some (owned_join_with_slot at value x)) ≡ Some y → JoinIn sorts key y
        by true is = absurd cc
        by false is = let eq : owned_join_with_slot at value x ≡ y = cc in subst (JoinIn sorts key) eq (one_filled x (h x refl))

    gives : (f : Option (Name × Join)) → ((x : Name × Join) → f ≡ Some x → JoinIn sorts key x) → EachOf (GivenIn sorts) (join_replies at value f)
    gives None h = tt
    gives (Some x) h = array_typed (Slots sorts x.0 x.1.number) (with_slot at value x.1) (one_filled x (h x refl)).join

  absurd_place : {A : Type 0} (maker : Name) (n at : ℕ) → Place maker n at ≡ Nobody → A
  absurd_place maker n at e = absurd cc

  absurd_token : {A : Type 0} (maker : Name) (n : ℕ) → Tok maker n ≡ Nobody → A
  absurd_token maker n e = absurd cc

  to_typed : (r : Reply) (value : Value) (s : Sort) → Owes sorts r s → fits_sort (Some s) value ≡ true → (w : Waiting) → WaitingIn sigs sorts w → WaitingIn sigs sorts (give_to r value w)
  to_typed Nobody value s o v w h = h
  to_typed (Outside n) value s o v w h = h
  to_typed (Tok maker n) value s (inl e) v w h = absurd_token maker n e
  to_typed (Tok maker n) value s (inr o) v w h = record { messages = each_mapped (MessageIn sigs sorts) w.messages (resolve maker n value) (resolved maker n value s o v) h.messages; joins = h.joins }
  to_typed (Place maker n at) value s (inl e) v w h = absurd_place maker n at e
  to_typed (Place maker n at) value s (inr o) v w h = record {
    messages = h.messages;
    joins = each_written (JoinIn sorts) w.joins (made_key maker n) (join_after_value at value (fm.get w.joins (made_key maker n))) h.joins (still_open maker n at value s o v (fm.get w.joins (made_key maker n)) (λ x is. h.joins.at (made_key maker n) x is));
  }

  on_typed : (r : Reply) (value : Value) (s : Sort) → Owes sorts r s → fits_sort (Some s) value ≡ true → (w : Waiting) → WaitingIn sigs sorts w → EachOf (GivenIn sorts) (replies_from r value w)
  on_typed Nobody value s o v w h = tt
  on_typed (Outside n) value s o v w h = tt
  on_typed (Tok maker n) value s o v w h = tt
  on_typed (Place maker n at) value s (inl e) v w h = absurd_place maker n at e
  on_typed (Place maker n at) value s (inr o) v w h = gives maker n at value s o v (fm.get w.joins (made_key maker n)) (λ x is. h.joins.at (made_key maker n) x is)

  one_typed : (g : DueReply) (w : Waiting) → GivenIn sorts g → WaitingIn sigs sorts w → WaitingIn sigs sorts (give_one g w)
  one_typed g w x h = at (is_legal g.1) refl
    where
      at : (b : Bool) → is_legal g.1 ≡ b → WaitingIn sigs sorts (cond b (give_to g.0 g.1 w) w)
      at true e = to_typed g.0 g.1 x.sort x.owes (both (is_legal g.1) (belongs g.1 x.sort) e x.belongs) w h
      at false e = h

  released_typed : (g : DueReply) (w : Waiting) → GivenIn sorts g → WaitingIn sigs sorts w → EachOf (GivenIn sorts) (replies_if_legal g w)
  released_typed g w x h = at (is_legal g.1) refl
    where
      at : (b : Bool) → is_legal g.1 ≡ b → EachOf (GivenIn sorts) (cond b (replies_from g.0 g.1 w) [])
      at true e = on_typed g.0 g.1 x.sort x.owes (both (is_legal g.1) (belongs g.1 x.sort) e x.belongs) w h
      at false e = tt

  -- ---- all of them

  settle_typed : (n : ℕ) (gs : List DueReply) (w : Waiting) → EachOf (GivenIn sorts) gs → WaitingIn sigs sorts w → WaitingIn sigs sorts (settle n gs w)
  unfolding settle
  settle_typed zero gs w g h = h
  settle_typed (suc n) [] w g h = h
  settle_typed (suc n) (x ∷ gs) w g h = settle_typed n (replies_if_legal x w ++ gs) (give_one x w) (each_append (GivenIn sorts) (replies_if_legal x w) gs (released_typed x w g.0 h) g.1) (one_typed x w g.0 h)

  pub settled_typed : (gs : List DueReply) (w : Waiting) → EachOf (GivenIn sorts) gs → WaitingIn sigs sorts w → WaitingIn sigs sorts (settle_all gs w)
  settled_typed gs w g h = settle_typed (settle_bound gs w) gs w g h

  -- ---- what they answer

  absurd_outside : {A : Type 0} (n : ℕ) → Outside n ≡ Nobody → A
  absurd_outside n e = absurd cc

  to_answers : (r : Reply) (value : Value) (s : Sort) → Owes sorts r s → fits_sort (Some s) value ≡ true → EachOf (AnswerIn sorts) (outside_answers r value)
  to_answers Nobody value s o v = tt
  to_answers (Outside n) value s (inl e) v = absurd_outside n e
  to_answers (Outside n) value s (inr o) v = (record { sort = s; is = o; fits = v }, tt)
  to_answers (Tok maker n) value s o v = tt
  to_answers (Place maker n at) value s o v = tt

  one_answer : (g : DueReply) → GivenIn sorts g → EachOf (AnswerIn sorts) (answers_if_legal g)
  one_answer g x = at (is_legal g.1) refl
    where
      at : (b : Bool) → is_legal g.1 ≡ b → EachOf (AnswerIn sorts) (cond b (outside_answers g.0 g.1) [])
      at true e = to_answers g.0 g.1 x.sort x.owes (both (is_legal g.1) (belongs g.1 x.sort) e x.belongs)
      at false e = tt

  by_typed : (n : ℕ) (gs : List DueReply) (w : Waiting) → EachOf (GivenIn sorts) gs → WaitingIn sigs sorts w → EachOf (AnswerIn sorts) (settle_answers n gs w)
  unfolding settle_answers
  by_typed zero gs w g h = tt
  by_typed (suc n) [] w g h = tt
  by_typed (suc n) (x ∷ gs) w g h = each_append (AnswerIn sorts) (answers_if_legal x) (settle_answers n (replies_if_legal x w ++ gs) (give_one x w)) (one_answer x g.0) (by_typed n (replies_if_legal x w ++ gs) (give_one x w) (each_append (GivenIn sorts) (replies_if_legal x w) gs (released_typed x w g.0 h) g.1) (one_typed x w g.0 h))

  pub after_typed : (gs : List DueReply) (w : Waiting) → EachOf (GivenIn sorts) gs → WaitingIn sigs sorts w → EachOf (AnswerIn sorts) (settle_all_answers gs w)
  after_typed gs w g h = by_typed (settle_bound gs w) gs w g h

  -- ---- what a step gives

  pub arrays_typed : (slots : Join → Sort → Type 0) (js : List Join) → EachOf (λ j. IsTypedJoin (Owes sorts) (slots j) j) js → EachOf (GivenIn sorts) (full_join_replies js)
  arrays_typed slots [] h = tt
  arrays_typed slots (j ∷ js) h = each_append (GivenIn sorts) (full_join_reply j) (full_join_replies js) (array_typed (slots j) j h.0) (arrays_typed slots js h.1)

  pub answered_typed : (a : Answer) (r : Reply) (s : Sort) → Owes sorts r s → IsAnswer s a → EachOf (GivenIn sorts) (answer_replies a r)
  answered_typed (answer.Value value) r s o b = (record { sort = s; owes = o; belongs = b }, tt)
  answered_typed answer.Passed r s o b = tt

-- ---- what is put

module _ {X : Type 0} (Q : TableKey → X → Type 0) where
  pub each_one : (t : Table X) (k : TableKey) (x : X) → Each Q t → Q k x → Each Q (write t k (Some x))
  each_one t k x e h = each_written Q t k (Some x) e (λ y is. let eq : x ≡ y = cc in subst (Q k) eq h)

  pub each_gone : (t : Table X) (k : TableKey) → Each Q t → Each Q (write t k None)
  each_gone t k e = each_written Q t k None e (λ y is. absurd cc)

pub put_messages_each : (Q : TableKey → Message → Type 0) (ms : List Message) (t : Table Message) → EachOf (λ m. Q (message_key m) (without_delay m)) ms → Each Q t → Each Q (put_messages ms t)
put_messages_each Q [] t f e = e
put_messages_each Q (m ∷ ms) t f e = each_one Q (put_messages ms t) (message_key m) (without_delay m) (put_messages_each Q ms t f.1 e) f.0

pub put_joins_each : (Q : TableKey → Name × Join → Type 0) (maker : Name) (js : List Join) (t : Table (Name × Join)) → EachOf (λ j. Q (made_key maker j.number) (maker, j)) js → Each Q t → Each Q (put_joins maker js t)
put_joins_each Q maker [] t f e = e
put_joins_each Q maker (j ∷ js) t f e = by (is_full j) (put_joins_each Q maker js t f.1 e)
  where
    by : (b : Bool) → Each Q (put_joins maker js t) → Each Q (if b then put_joins maker js t else put_join maker j (put_joins maker js t))
    by true rest = rest
    by false rest = each_one Q (put_joins maker js t) (made_key maker j.number) (maker, j) rest f.0

pub join_more : (owes owes' : Reply → Sort → Type 0) (slots slots' : Sort → Type 0) → ((r : Reply) (s : Sort) → owes r s → owes' r s) → ((s : Sort) → slots s → slots' s) → (j : Join) → IsTypedJoin owes slots j → IsTypedJoin owes' slots' j
join_more owes owes' slots slots' f g j h = record { item = h.item; slot = g h.item h.slot; places = h.places; reply = f j.reply (join_sort j.void h.item) h.reply }
