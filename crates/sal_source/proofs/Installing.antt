-- What a handler leaves, put into the configuration, keeps what runs keep.
use Rattle.std.proofs.Common.{◌≡◌, inl, inr, ℕ, ◌≤◌, Bool, true, false, not, List, [], length, Some, is_some, refl, sym, ap, subst, ◌∙◌, arith}
use Rattle.std.specs.Prelude.{nat_eq}
use Rattle.std.specs.List.{list_all}
use Rattle.std.proofs.lemmas.Bool.{eqb-true}
use Rattle.std.specs.FinMap as fm
use Rattle.std.specs.FinSet as fs
use Rattle.sal_value.specs.declared.name.Name.{Name}
use Rattle.sal_value.specs.declared.name.Name.TheVariants as name
use Rattle.sal_mail.specs.declared.message.Reply.{Reply}
use Rattle.sal_mail.specs.declared.message.Reply.TheVariants.{Nobody, Tok, Place, Outside}
use Rattle.sal_mail.specs.declared.message.Message.{Message}
use Rattle.sal_mail.specs.declared.message.Join.{Join}
use Rattle.sal_mail.specs.declared.effects.Actor.{Actor}
use Rattle.sal_mail.specs.declared.effects.Effects.{Effects}
use Rattle.sal_mail.specs.Message.{is_full}
use Rattle.sal_handler.specs.WellFormed.{EachOf, one_if_same, times_taken, IsWithin, IsNewReply, IsAllowedReply, IsGoodMessage, HaveFreshNames, IsOldReply, IsOrderly}
use Rattle.sal_handler.specs.WellFormed as f
use Rattle.sal_handler.proofs.Addresses.{each_more}
use Rattle.sal_source.specs.Table.{TableKey, keys_of}
use Rattle.sal_source.specs.Keys.{name_key, made_key, message_key}
use Rattle.sal_source.specs.Configuration.{Configuration}
use Rattle.sal_source.specs.Step.{put_actors, give_names, is_new, is_anonymous, are_different, fits_fresh, call_of, with_effects}
use Rattle.sal_source.specs.Once.{next_serial_of, next_serial}
use Rattle.sal_source.proofs.Tables.{words_tells}
use Rattle.sal_source.proofs.Given.{contains_keys, keys_put, keys_again, has_put}
use Rattle.sal_source.proofs.Once.{Each, each_written, each_put, each_opened}
use Rattle.sal_source.proofs.Keeping.{Actors, IsActor, next_actor, same_made, IsOwedOld, Fits, WasThere, IsKeyed, KeptIn, Grows, GoesTo, goes_same, owed_more, waits_more, split, flipped, number_here, number_there, put_grows, put_keyed, IsFreshFor, named, anonymous_actor, one_at_least, each_both, within}

-- the handled message's reply is old, if what it names was taken
pub old_reply : (actors : Actors) (posted : ℕ) (a : Actor × ℕ) → fm.get actors (name_key a.0.name) ≡ Some a → IsActor a.0.name → (r : Reply) → IsOwedOld actors posted r → IsOldReply a.0.name a.1 r
old_reply actors posted a at actor r h = by r h
  where
    next : (maker : Name) → maker ≡ a.0.name → next_serial actors posted maker ≡ a.1
    next maker same = ap (next_serial actors posted) same ∙ next_actor actors posted a.0.name actor ∙ ap next_serial_of at

    by : (r : Reply) → IsOwedOld actors posted r → IsOldReply a.0.name a.1 r
    by Nobody h = tt
    by (Tok maker n) h = λ same. omega (arith, h, next maker same)
    by (Place maker join i) h = λ same. omega (arith, h, next maker same)
    by (Outside n) h = tt

module _ (c : Configuration) (kept : KeptIn c) (m : Message) (a : Actor × ℕ) (fresh : List Name) (e : Effects) (sizes : List ℕ) (at : fm.get c.actors (name_key a.0.name) ≡ Some a) (actor : IsActor a.0.name) (owed : IsOwedOld c.actors c.posted m.reply)
    (order : IsOrderly sizes (call_of m a fresh) e) (fits : fits_fresh fresh e c ≡ true) where
  abbrev me : Name
  me = a.0.name

  abbrev left : Actor × ℕ
  left = (record a.0 { fields = e.fields }, e.serial)

  abbrev after : Configuration
  after = with_effects e a.0 c

  -- ---- actors

  as_many : length fresh ≡ length e.actors
  as_many = eqb-true (length fresh) (length e.actors) (split (nat_eq (length fresh) (length e.actors)) _ fits).0

  all_new : list_all (is_new c.given) fresh ≡ true
  all_new = (split (list_all (is_new c.given) fresh) (are_different fresh) (split (nat_eq (length fresh) (length e.actors)) _ fits).1).0

  new_actors : EachOf (IsFreshFor c.actors) e.actors
  new_actors = each_more (λ x. is_new c.given x.name ≡ true) (IsFreshFor c.actors) e.actors (λ x h. new x.name h) (named (is_new c.given) [] fresh e.actors order.names as_many all_new)
    where
      new : (n : Name) → is_new c.given n ≡ true → (fm.contains_key c.actors (name_key n) ≡ false) × IsActor n
      new n h =
          let p = split (is_anonymous n) (not (fs.contains c.given (name_key n))) h in
          (sym (contains_keys c.actors (name_key n)) ∙ ap (λ g. fs.contains g (name_key n)) (sym kept.named) ∙ flipped (fs.contains c.given (name_key n)) p.1, anonymous_actor n p.0)

  grew : (q : TableKey) → next_serial_of (fm.get c.actors q) ≤ next_serial_of (fm.get after.actors q)
  grew q =
      elim (words_tells q (name_key me)) [
        | inl s ↦
            let old : next_serial_of (fm.get c.actors q) ≡ a.1 = ap (λ z. next_serial_of (fm.get c.actors z)) s.1 ∙ ap next_serial_of at in
            let new = number_here (put_actors e.actors c.actors) (name_key me) q left s.1 in
            omega (arith, old, new, order.rises)
        | inr s ↦ omega (arith, put_grows e.actors c.actors q new_actors, number_there (put_actors e.actors c.actors) (name_key me) q left s.0)
      ]

  grows : Grows c.actors c.posted after.actors after.posted
  grows (name.Anon theatre n) = grew (name_key (name.Anon theatre n))
  grows (name.Uan u) = grew (name_key (name.Uan u))
  grows (name.Outside n) = omega arith

  names_kept : after.given ≡ keys_of after.actors
  names_kept = ap (give_names e.actors) kept.named ∙ sym (keys_again (put_actors e.actors c.actors) (name_key me) left (has_put e.actors c.actors (name_key me) (ap is_some at)) ∙ keys_put e.actors c.actors)

  keyed : Each IsKeyed after.actors
  keyed = each_written IsKeyed (put_actors e.actors c.actors) (name_key me) (Some left) (put_keyed e.actors c.actors c.actors new_actors kept.keyed) (λ y is. let same : left ≡ y = cc in subst (IsKeyed (name_key me)) same (record { keyed = refl; actor = actor }))

  -- ---- what it made

  pub before_me : next_serial c.actors c.posted me ≡ a.1
  before_me = next_actor c.actors c.posted me actor ∙ ap next_serial_of at

  pub after_me : next_serial after.actors after.posted me ≡ e.serial
  after_me = next_actor after.actors after.posted me actor ∙ number_here (put_actors e.actors c.actors) (name_key me) (name_key me) left refl

  of_owner : (maker : Name) → maker ≡ me → next_serial after.actors after.posted maker ≡ e.serial
  of_owner maker same = ap (next_serial after.actors after.posted) same ∙ after_me

  owed_new : (r : Reply) → IsNewReply me a.1 e.serial r → IsOwedOld after.actors after.posted r
  owed_new Nobody h = absurd h
  owed_new (Tok maker n) h = omega (arith, h.1.1, of_owner maker h.0)
  owed_new (Place maker join i) h = omega (arith, h.1.1, of_owner maker h.0)
  owed_new (Outside n) h = absurd h

  owed_well : (r : Reply) → IsAllowedReply me m.reply a.1 e.serial r → IsOwedOld after.actors after.posted r
  owed_well r (inl same) = subst (IsOwedOld after.actors after.posted) (sym same) tt
  owed_well r (inr (inl same)) = subst (IsOwedOld after.actors after.posted) (sym same) (owed_more c.actors after.actors c.posted after.posted grows m.reply owed)
  owed_well r (inr (inr h)) = owed_new r h

  fits_new : (maker : Name) (k : ℕ) (r : Reply) → maker ≡ me → IsWithin a.1 e.serial k → IsAllowedReply me m.reply a.1 e.serial r → Fits after.actors after.posted (made_key maker k) r
  fits_new maker k r mine w o = record {
    owed = owed_well r o;
    number = λ n s same. let p = same_made maker n k s same in omega (arith, w.1, p.1, of_owner n (sym p.0 ∙ mine));
  }

  there_new : (before : TableKey → Bool) (maker : Name) (k : ℕ) (r : Reply) → maker ≡ me → IsWithin a.1 e.serial k → WasThere c.actors c.posted before (made_key maker k) r
  there_new before maker k r mine w = record {
    there = λ n s same l.
        let p = same_made maker n k s same in
        let next : next_serial c.actors c.posted n ≡ a.1 = ap (next_serial c.actors c.posted) (sym p.0 ∙ mine) ∙ before_me in
        absurd (omega (arith, l, next, p.1, w.0));
  }

  messages_within : EachOf (λ x. IsWithin a.1 e.serial x.serial) e.messages
  messages_within = each_more (λ x. 1 ≤ f.total (λ y. one_if_same x.serial y.serial) e.messages) (λ x. IsWithin a.1 e.serial x.serial) e.messages (λ x l. within sizes (call_of m a fresh) e order x.serial (omega (arith, l))) (one_at_least (λ x. x.serial) [] e.messages)

  joins_within : EachOf (λ j. IsWithin a.1 e.serial j.number) e.joins
  joins_within = each_more (λ j. 1 ≤ f.total (λ y. one_if_same j.number y.number) e.joins) (λ j. IsWithin a.1 e.serial j.number) e.joins (λ j l. within sizes (call_of m a fresh) e order j.number (omega (arith, l))) (one_at_least (λ j. j.number) [] e.joins)

  abbrev GoodOne : Message → Type 0
  GoodOne x = IsGoodMessage me m.reply a.1 e.serial sizes x × IsWithin a.1 e.serial x.serial

  abbrev GoodJoin : Join → Type 0
  GoodJoin j = IsAllowedReply me m.reply a.1 e.serial j.reply × IsWithin a.1 e.serial j.number

  good_messages : EachOf GoodOne e.messages
  good_messages = each_both (IsGoodMessage me m.reply a.1 e.serial sizes) (λ x. IsWithin a.1 e.serial x.serial) e.messages order.messages messages_within

  good_joins : EachOf GoodJoin e.joins
  good_joins = each_both (λ j. IsAllowedReply me m.reply a.1 e.serial j.reply) (λ j. IsWithin a.1 e.serial j.number) e.joins order.joins joins_within

  pub kept_installed : KeptIn after
  kept_installed =
      let old = waits_more c.actors after.actors c.posted after.posted grows c.waiting kept.waits in
      record {
        named = names_kept;
        keyed = keyed;
        waits = record {
          messages = each_put (Fits after.actors after.posted) (Fits after.actors after.posted) e.messages c.waiting.messages (each_more GoodOne (λ x. Fits after.actors after.posted (message_key x) x.reply) e.messages (λ x g. fits_new x.maker x.serial x.reply g.0.maker g.1 g.0.reply) good_messages) old.messages;
          joins = each_opened (Fits after.actors after.posted) (Fits after.actors after.posted) me e.joins c.waiting.joins (each_more GoodJoin (λ j. is_full j ≡ false → Fits after.actors after.posted (made_key me j.number) j.reply) e.joins (λ j g o. fits_new me j.number j.reply refl g.1 g.0) good_joins) old.joins;
        };
      }

  abbrev WasMessage : TableKey → Reply → Type 0
  WasMessage = WasThere c.actors c.posted (fm.contains_key c.waiting.messages)

  abbrev WasJoin : TableKey → Reply → Type 0
  WasJoin = WasThere c.actors c.posted (fm.contains_key c.waiting.joins)

  pub goes_installed : GoesTo c after
  goes_installed =
      let old = goes_same c.actors c.posted c.waiting in
      record {
        grows = grows;
        waits = record {
          messages = each_put WasMessage WasJoin e.messages c.waiting.messages (each_more GoodOne (λ x. WasMessage (message_key x) x.reply) e.messages (λ x g. there_new (fm.contains_key c.waiting.messages) x.maker x.serial x.reply g.0.maker g.1) good_messages) old.messages;
          joins = each_opened WasMessage WasJoin me e.joins c.waiting.joins (each_more GoodJoin (λ j. is_full j ≡ false → WasJoin (made_key me j.number) j.reply) e.joins (λ j g o. there_new (fm.contains_key c.waiting.joins) me j.number j.reply refl g.1) good_joins) old.joins;
        };
      }
