-- Giving a reply is giving it to the book.
use Rattle.std.proofs.Common.{◌≡◌, ◌≢◌, ℕ, Bool, true, false, cond, List, [], ◌∷◌, ◌++◌, map, refl, sym, ap, subst, ◌∙◌, ◌⊎◌, inl, inr, append-nil}
use Rattle.std.specs.Prelude.{if◌then◌else◌, filter, filter_map, All}
use Rattle.std.proofs.lemmas.List.Elements.{All-append, All-nil, filter_passes}
use Rattle.sal_value.specs.declared.name.Name.{Name}
use Rattle.sal_value.specs.declared.value.Value.{Value}
use Rattle.sal_value.specs.Spelling.{is_legal}
use Rattle.sal_mail.specs.declared.message.Reply.{Reply}
use Rattle.sal_mail.specs.declared.message.Reply.TheVariants.{Nobody, Tok, Place, Outside}
use Rattle.sal_mail.specs.declared.message.Message.{Message}
use Rattle.sal_mail.specs.declared.message.Join.{Join}
use Rattle.sal_mail.specs.Message.{is_ready, with_reply}
use Rattle.sal_source.specs.Configuration.{Waiting}
use Rattle.sal_source.specs.Give.{DueReply, give_to, replies_from, outside_answers, give_one, replies_if_legal, settle_all, settle_all_answers}
use Rattle.sal_source.proofs.Fuel.{give_first, tell_first, give_both, tell_both}
use Rattle.sal_source.specs.Table.{table_of}
use Rattle.sal_source.specs.Keys.{message_key, join_key}
use Rattle.sal_book.specs.declared.released.Released.{Released}
use Rattle.sal_book.specs.Book.{Book, rise, message_numbers, join_numbers, is_legal_reply, book_after_legal, released_by_legal, none_released, book_after_reply, released_by_reply}
use Rattle.sal_book.proofs.Rising.{messages_rise_after, joins_rise_after}
use Rattle.sal_book.proofs.Makers.{makers_stay}
use Rattle.sal_giving.specs.Giving.{joins_of, waiting_with, waiting_after, IsBookOf, IsOwedTo, GivingIsByBooks}
use Rattle.sal_giving.proofs.Firsts.{bool_cases}
use Rattle.sal_giving.proofs.Tokens.{table_resolved}
use Rattle.sal_giving.proofs.Places.{table_placed, replies_placed}

-- ---- replies whose values aren't legal

-- nothing comes of one
lost : (g : DueReply) (gs : List DueReply) (w : Waiting) → is_legal g.1 ≡ false → settle_all (g ∷ gs) w ≡ settle_all gs w
lost g gs w e = give_first g gs w ∙ ap (λ b. settle_all (cond b (replies_from g.0 g.1 w) [] ++ gs) (cond b (give_to g.0 g.1 w) w)) e

lost_told : (g : DueReply) (gs : List DueReply) (w : Waiting) → is_legal g.1 ≡ false → settle_all_answers (g ∷ gs) w ≡ settle_all_answers gs w
lost_told g gs w e =
    tell_first g gs w ∙ ap (λ b. cond b (outside_answers g.0 g.1) [] ++ settle_all_answers (cond b (replies_from g.0 g.1 w) [] ++ gs) (cond b (give_to g.0 g.1 w) w)) e

-- so they may be left out
legal_settled : (gs : List DueReply) (w : Waiting) → settle_all (filter is_legal_reply gs) w ≡ settle_all gs w
legal_settled [] w = refl
legal_settled (g ∷ gs) w = elim (bool_cases (is_legal g.1)) [
  | inl e ↦
      ap (λ b. settle_all (cond b (g ∷ filter is_legal_reply gs) (filter is_legal_reply gs)) w) e
      ∙ give_both (g ∷ []) (filter is_legal_reply gs) w ∙ legal_settled gs (settle_all (g ∷ []) w) ∙ sym (give_both (g ∷ []) gs w)
  | inr e ↦ ap (λ b. settle_all (cond b (g ∷ filter is_legal_reply gs) (filter is_legal_reply gs)) w) e ∙ legal_settled gs w ∙ sym (lost g gs w e)
]

legal_told : (gs : List DueReply) (w : Waiting) → settle_all_answers (filter is_legal_reply gs) w ≡ settle_all_answers gs w
legal_told [] w = refl
legal_told (g ∷ gs) w = elim (bool_cases (is_legal g.1)) [
  | inl e ↦
      ap (λ b. settle_all_answers (cond b (g ∷ filter is_legal_reply gs) (filter is_legal_reply gs)) w) e
      ∙ tell_both (g ∷ []) (filter is_legal_reply gs) w
      ∙ ap (λ l. settle_all_answers (g ∷ []) w ++ l) (legal_told gs (settle_all (g ∷ []) w)) ∙ sym (tell_both (g ∷ []) gs w)
  | inr e ↦ ap (λ b. settle_all_answers (cond b (g ∷ filter is_legal_reply gs) (filter is_legal_reply gs)) w) e ∙ legal_told gs w ∙ sym (lost_told g gs w e)
]

-- ---- one reply

module _ (maker : Name) (b : Book) (messages : List Message) (joins : List (Name × Join)) where
  -- the book after the reply, and what it releases, where its value is legal or not
  abbrev book_if : Bool → Reply → Value → Book
  book_if legal reply value = if legal then book_after_legal reply value b else b

  abbrev released_if : Bool → Reply → Value → Released
  released_if legal reply value = if legal then released_by_legal reply value b else none_released

  record OneByBook (legal : Bool) (reply : Reply) (value : Value) : Type 0 where
    waiting : cond legal (give_to reply value (waiting_with maker b messages joins)) (waiting_with maker b messages joins)
        ≡ waiting_with maker (book_if legal reply value) ((released_if legal reply value).messages ++ messages) joins
    replies : filter is_legal_reply (cond legal (replies_from reply value (waiting_with maker b messages joins)) []) ≡ (released_if legal reply value).replies
    answers : cond legal (outside_answers reply value) [] ≡ []

  by_token : (number : ℕ) (value : Value) (legal : Bool) → IsBookOf maker b messages joins → OneByBook legal (Tok maker number) value
  by_token number value true is = record {
    waiting = λ i. record { messages = table_resolved maker number value b.messages messages is.own is.messages_rise is.none_waits i; joins = table_of join_key (joins_of maker b.joins ++ joins) };
    replies = refl;
    answers = refl;
  }
  by_token number value false is = record { waiting = refl; replies = refl; answers = refl }

  by_place : (number at : ℕ) (value : Value) (legal : Bool) → IsBookOf maker b messages joins → OneByBook legal (Place maker number at) value
  by_place number at value true is = record {
    waiting = λ i. record { messages = table_of message_key (b.messages ++ messages); joins = table_placed maker number at value b.joins joins is.joins_rise is.none_open i };
    replies = replies_placed maker number at value b.joins joins is.joins_rise is.none_open;
    answers = refl;
  }
  by_place number at value false is = record { waiting = refl; replies = refl; answers = refl }

  by_book : (reply : Reply) (value : Value) (legal : Bool) → IsBookOf maker b messages joins → IsOwedTo maker reply → OneByBook legal reply value
  by_book Nobody value legal is owed = absurd owed
  by_book (Outside number) value legal is owed = absurd owed
  by_book (Tok owner number) value legal is owed = let P : Name → Type 0 = λ o. OneByBook legal (Tok o number) value in subst P (sym owed) (by_token number value legal is)
  by_book (Place owner number at) value legal is owed = let P : Name → Type 0 = λ o. OneByBook legal (Place o number at) value in subst P (sym owed) (by_place number at value legal is)

  -- ---- the book stays the actor's

  still_rise : (reply : Reply) (value : Value) (legal : Bool) → rise (message_numbers b.messages) ≡ true → rise (message_numbers (book_if legal reply value).messages) ≡ true
  still_rise reply value false rising = rising
  still_rise Nobody value true rising = rising
  still_rise (Outside number) value true rising = rising
  still_rise (Tok owner number) value true rising = messages_rise_after number value b.messages rising
  still_rise (Place owner number at) value true rising = rising

  joins_still_rise : (reply : Reply) (value : Value) (legal : Bool) → rise (join_numbers b.joins) ≡ true → rise (join_numbers (book_if legal reply value).joins) ≡ true
  joins_still_rise reply value false rising = rising
  joins_still_rise Nobody value true rising = rising
  joins_still_rise (Outside number) value true rising = rising
  joins_still_rise (Tok owner number) value true rising = rising
  joins_still_rise (Place owner number at) value true rising = joins_rise_after number at value b.joins rising

  released_ready : (reply : Reply) (value : Value) (legal : Bool) → All (λ m. m.maker ≡ maker → is_ready m ≡ true) (released_if legal reply value).messages
  released_ready reply value false = All-nil (λ (m : Message). m.maker ≡ maker → is_ready m ≡ true)
  released_ready Nobody value true = All-nil (λ (m : Message). m.maker ≡ maker → is_ready m ≡ true)
  released_ready (Outside number) value true = All-nil (λ (m : Message). m.maker ≡ maker → is_ready m ≡ true)
  released_ready (Tok owner number) value true = λ k d lt own. filter_passes is_ready (map (with_reply number value) b.messages) k d lt
  released_ready (Place owner number at) value true = All-nil (λ (m : Message). m.maker ≡ maker → is_ready m ≡ true)

  stays : (reply : Reply) (value : Value) → IsBookOf maker b messages joins → IsBookOf maker (book_after_reply reply value b) ((released_by_reply reply value b).messages ++ messages) joins
  stays reply value is = record {
    own = makers_stay.reply maker reply value b is.own;
    messages_rise = still_rise reply value (is_legal value) is.messages_rise;
    joins_rise = joins_still_rise reply value (is_legal value) is.joins_rise;
    none_waits = All-append (λ (m : Message). m.maker ≡ maker → is_ready m ≡ true) (released_by_reply reply value b).messages messages (released_ready reply value (is_legal value)) is.none_waits;
    none_open = is.none_open;
  }

-- ---- giving

pub giving : GivingIsByBooks
giving maker b messages joins reply value c is owed all =
    let g : DueReply = (reply, value) in
    let w : Waiting = waiting_with maker b messages joins in
    let one : OneByBook maker b messages joins (is_legal value) reply value = by_book maker b messages joins reply value (is_legal value) is owed in
    let waiting : settle_all (g ∷ []) c.waiting ≡ settle_all (released_by_reply reply value b).replies (waiting_after maker b messages joins reply value) =
    ap (settle_all (g ∷ [])) all ∙ give_first g [] w ∙ ap (λ l. settle_all l (give_one g w)) (append-nil (replies_if_legal g w))
    ∙ sym (legal_settled (replies_if_legal g w) (give_one g w)) ∙ (λ i. settle_all (one.replies i) (one.waiting i)) in
    let answers : settle_all_answers (g ∷ []) c.waiting ≡ settle_all_answers (released_by_reply reply value b).replies (waiting_after maker b messages joins reply value) =
    ap (settle_all_answers (g ∷ [])) all ∙ tell_first g [] w ∙ ap (λ l. l ++ settle_all_answers (replies_if_legal g w ++ []) (give_one g w)) one.answers
    ∙ ap (λ l. settle_all_answers l (give_one g w)) (append-nil (replies_if_legal g w))
    ∙ sym (legal_told (replies_if_legal g w) (give_one g w)) ∙ (λ i. settle_all_answers (one.replies i) (one.waiting i)) in
    record {
      gives = λ i. record c { waiting = waiting i; answers = c.answers ++ answers i };
      again = stays maker b messages joins reply value is;
    }
