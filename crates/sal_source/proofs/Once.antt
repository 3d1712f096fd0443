-- What waits, told by key and reply: giving replies adds nothing.
use Rattle.std.proofs.Common.{◌≡◌, inl, inr, ℕ, zero, suc, Bool, true, false, cond, if◌then◌else◌, List, [], ◌∷◌, ◌++◌, Option, Some, None, refl, sym, ap, subst, ◌∙◌}
use Rattle.std.specs.Option.{option_map}
use Rattle.std.specs.FinMap as fm
use Rattle.sal_value.specs.declared.name.Name.{Name}
use Rattle.sal_value.specs.declared.value.Value.{Value}
use Rattle.sal_value.specs.Spelling.{is_legal}
use Rattle.sal_mail.specs.declared.message.Reply.{Reply}
use Rattle.sal_mail.specs.declared.message.Reply.TheVariants.{Nobody, Tok, Place, Outside}
use Rattle.sal_mail.specs.declared.message.Message.{Message}
use Rattle.sal_mail.specs.declared.message.Join.{Join}
use Rattle.sal_mail.specs.Message.{with_reply, with_slot, is_full, without_delay}
use Rattle.sal_handler.specs.WellFormed.{EachOf}
use Rattle.sal_source.specs.Table.{TableKey, key_cmp, key_eq, Table, write, table_map}
use Rattle.sal_source.specs.Keys.{name_key, made_key, message_key}
use Rattle.sal_source.specs.Configuration.{Waiting}
use Rattle.sal_source.specs.Give.{DueReply, resolve, owned_join_with_slot, join_after_value, give_to, give_one, replies_if_legal, settle, settle_all, settle_bound}
use Rattle.sal_source.specs.Step.{put_messages, put_join, put_joins}
use Rattle.sal_source.proofs.Tables.{words_tells, get-write, get-map}

-- it holds of each thing at its key
module _ {X : Type 0} (Q : TableKey → X → Type 0) where
  pub record Each (t : Table X) : Type 0 where
    pub at : (key : TableKey) (x : X) → fm.get t key ≡ Some x → Q key x

  pub each_written : (t : Table X) (k : TableKey) (o : Option X) → Each t → ((x : X) → o ≡ Some x → Q k x) → Each (write t k o)
  each_written t k o e g = record {
    at = λ key x is.
        elim (words_tells key k) [
          | inl a ↦ subst (λ z. Q z x) (sym a.1) (g x (sym (get-write t k o key ∙ ap (λ b. cond b o (fm.get t key)) a.0) ∙ is))
          | inr a ↦ e.at key x (sym (get-write t k o key ∙ ap (λ b. cond b o (fm.get t key)) a.0) ∙ is)
        ];
  }

  pub each_mapped : (t : Table X) (f : X → X) → ((key : TableKey) (x : X) → Q key x → Q key (f x)) → Each t → Each (table_map f t)
  each_mapped t f g e = record { at = λ key y is. by key y (fm.get t key) refl (sym (get-map f t key) ∙ is) }
    where
      by : (key : TableKey) (y : X) (o : Option X) → fm.get t key ≡ o → option_map f o ≡ Some y → Q key y
      by key y None same is = absurd cc
      by key y (Some x) same is = let eq : f x ≡ y = cc in subst (Q key) eq (g key x (e.at key x same))

  pub each_none : Each (fm.empty {X = X} {R = key_cmp})
  each_none = record { at = λ key x is. let none : None ≡ Some x = sym (fm.get-empty {X = X} key_cmp key) ∙ is in absurd cc }

module _ (P : TableKey → Reply → Type 0) where
  abbrev pub OfMessage : TableKey → Message → Type 0
  OfMessage key m = P key m.reply

  abbrev pub OfJoin : TableKey → Name × Join → Type 0
  OfJoin key j = P key j.1.reply

module _ (P Q : TableKey → Reply → Type 0) where
  pub record Waits (w : Waiting) : Type 0 where
    pub messages : Each (OfMessage P) w.messages
    pub joins : Each (OfJoin Q) w.joins

  resolved : (maker : Name) (number : ℕ) (value : Value) (key : TableKey) (m : Message) → P key m.reply → P key (resolve maker number value m).reply
  resolved maker number value key m h = at (key_eq (name_key maker) (name_key m.maker))
    where
      at : (b : Bool) → P key (cond b (with_reply number value m) m).reply
      at true = h
      at false = h

  after : (key : TableKey) (at : ℕ) (value : Value) (o : Option (Name × Join)) → ((j : Name × Join) → o ≡ Some j → Q key j.1.reply) → (x : Name × Join) → join_after_value at value o ≡ Some x → Q key x.1.reply
  after key at value None h x is = absurd cc
  after key at value (Some j) h x is = by (is_full (with_slot at value j.1)) is
    where
      by : (b : Bool) → cond b None (Some (owned_join_with_slot at value j)) ≡ Some x → Q key x.1.reply
      by true is = absurd cc
      by false is = let eq : owned_join_with_slot at value j ≡ x = cc in subst (λ z. Q key z.1.reply) eq (h j refl)

  waits_given : (r : Reply) (value : Value) (w : Waiting) → Waits w → Waits (give_to r value w)
  waits_given Nobody value w h = h
  waits_given (Outside number) value w h = h
  waits_given (Tok maker number) value w h = record { messages = each_mapped (OfMessage P) w.messages (resolve maker number value) (λ key m p. resolved maker number value key m p) h.messages; joins = h.joins }
  waits_given (Place maker join at) value w h = record {
    messages = h.messages;
    joins = each_written (OfJoin Q) w.joins (made_key maker join) (join_after_value at value (fm.get w.joins (made_key maker join))) h.joins (after (made_key maker join) at value (fm.get w.joins (made_key maker join)) (λ j is. h.joins.at (made_key maker join) j is));
  }

  pub waits_one : (g : DueReply) (w : Waiting) → Waits w → Waits (give_one g w)
  waits_one g w h = at (is_legal g.1)
    where
      at : (b : Bool) → Waits (cond b (give_to g.0 g.1 w) w)
      at true = waits_given g.0 g.1 w h
      at false = h

  waits_settle : (n : ℕ) (gs : List DueReply) (w : Waiting) → Waits w → Waits (settle n gs w)
  unfolding settle
  waits_settle zero gs w h = h
  waits_settle (suc n) [] w h = h
  waits_settle (suc n) (g ∷ gs) w h = waits_settle n (replies_if_legal g w ++ gs) (give_one g w) (waits_one g w h)

  pub waits_settled : (gs : List DueReply) (w : Waiting) → Waits w → Waits (settle_all gs w)
  waits_settled gs w h = waits_settle (settle_bound gs w) gs w h

  pub waits_dropped : (w : Waiting) (key : TableKey) → Waits w → Waits (record w { messages = write w.messages key None })
  waits_dropped w key h = record { messages = each_written (OfMessage P) w.messages key None h.messages (λ x is. absurd cc); joins = h.joins }

  pub each_put : (ms : List Message) (t : Table Message) → EachOf (λ m. P (message_key m) m.reply) ms → Each (OfMessage P) t → Each (OfMessage P) (put_messages ms t)
  each_put [] t f e = e
  each_put (m ∷ ms) t f e = each_written (OfMessage P) (put_messages ms t) (message_key m) (Some (without_delay m)) (each_put ms t f.1 e) (λ x is. let eq : without_delay m ≡ x = cc in subst (λ z. P (message_key m) z.reply) eq f.0)

  pub each_opened : (maker : Name) (js : List Join) (t : Table (Name × Join)) → EachOf (λ j. is_full j ≡ false → Q (made_key maker j.number) j.reply) js → Each (OfJoin Q) t → Each (OfJoin Q) (put_joins maker js t)
  each_opened maker [] t f e = e
  each_opened maker (j ∷ js) t f e = by (is_full j) refl (each_opened maker js t f.1 e)
    where
      by : (b : Bool) → is_full j ≡ b → Each (OfJoin Q) (put_joins maker js t) → Each (OfJoin Q) (if b then put_joins maker js t else put_join maker j (put_joins maker js t))
      by true shut rest = rest
      by false shut rest = each_written (OfJoin Q) (put_joins maker js t) (made_key maker j.number) (Some (maker, j)) rest (λ x is. let eq : (maker, j) ≡ x = cc in subst (λ z. Q (made_key maker j.number) z.1.reply) eq (f.0 shut))
