-- Creations that are bound or refused.
use Rattle.std.proofs.Common.{◌≡◌, inl, inr, ℕ, ◌+◌, ◌≤◌, Bool, true, false, not, ◌&&◌, ◌||◌, List, [], ◌∷◌, ◌++◌, map, Some, None, refl, sym, ap, subst, ◌∙◌, arith, append-nil}
use Rattle.std.specs.Prelude.{if◌then◌else◌, filter_map}
use Rattle.std.specs.Coded.{coded×}
use Rattle.std.proofs.lemmas.Cmp.{nat_list_cmp_total}
use Rattle.std.specs.FinMap as fm
use Rattle.std.specs.FinSet as fs
use Rattle.sal_value.specs.contracts.name.Name.{the_row as name_row}
use Rattle.sal_mail.specs.contracts.effects.Creation.{the_row as creation_row}
use Rattle.sal_value.specs.declared.name.Name.{Name}
use Rattle.sal_value.specs.declared.name.Name.TheVariants as name
use Rattle.sal_value.specs.declared.name.Uan.{Uan}
use Rattle.sal_mail.specs.declared.effects.Creation.{Creation}
use Rattle.sal_mail.specs.declared.fault.FaultKind.TheVariants.{NameTaken}
use Rattle.sal_source.specs.Table.{TableKey, key_cmp, key_eq, Table, write, table_of, HasSameItems}
use Rattle.sal_source.specs.Keys.{name_key, made_key, creation_key, actor_key}
use Rattle.sal_source.specs.Configuration.{Configuration}
use Rattle.sal_source.specs.Step as s
use Rattle.sal_source.proofs.Same.{test_of, total-append}
use Rattle.sal_source.proofs.Tables.{words_anti, words_refl, words_tells, get-table_of}
use Rattle.sal_source.proofs.Listing.{write_nothing}
use Rattle.sal_source.proofs.Commute.{get-write_same, write_again}
use Rattle.sal_pieces.specs.Pieces.{Piece, WaitingCreation, Put, Thing, ActorThing, CreationThing, things}
use Rattle.sal_pieces.specs.Image.{History, actor_in, creation_in, anonymous_in, waiting_before_replies, waiting_after_replies, image_of}
use Rattle.sal_pieces.specs.Once.{one_if_key, actor_key_in, creation_key_in, count_at_key, StandOnce}
use Rattle.sal_pieces.specs.Order.{IsAlone}
use Rattle.sal_pieces.specs.Steps.{Continues, BindingsAreSteps}
use Rattle.sal_pieces.proofs.Order.{absent as none_found, few_of, creation_one, same_set}
use Rattle.sal_pieces.proofs.Creations.{are_decided}
use Rattle.sal_pieces.proofs.Stepping.{tail_once}

-- ---- names

pub any_front : (k : TableKey) (ks : List TableKey) → fs.insert (fs.from_list {R = key_cmp} ks) k ≡ fs.from_list (k ∷ ks)
any_front k ks = fs.same_set nat_list_cmp_total words_anti _ _ (λ q.
    fs.contains-insert nat_list_cmp_total (fs.from_list ks) k q
    ∙ ap (λ b. key_eq q k || b) (fs.contains-from_list nat_list_cmp_total ks q)
    ∙ sym (fs.contains-from_list nat_list_cmp_total (k ∷ ks) q))

named : (k : TableKey) (ks bound later : List TableKey) → HasSameItems later (k ∷ bound) → fs.insert (fs.from_list {R = key_cmp} (ks ++ bound)) k ≡ fs.from_list (ks ++ later)
named k ks bound later same =
    any_front k (ks ++ bound)
    ∙ same_set (k ∷ (ks ++ bound)) (ks ++ later) (record { weighs = λ f. let e = same.weighs f in omega (arith, e, total-append f ks bound, total-append f ks later) })

-- ---- the creation in front

module _ (maker : Name) (x : Creation) (ts : List Thing) (once : StandOnce (CreationThing (maker, x) ∷ ts)) where
  abbrev k : TableKey
  k = made_key maker x.serial

  abbrev others : Table (Name × Creation)
  others = table_of creation_key (filter_map creation_in ts)

  absent : fm.get others k ≡ None
  absent =
      let one : one_if_key k (Some k) ≡ 1 = ap (λ (b : Bool). if◌then◌else◌ {A = ℕ} b 1 0) (words_refl k) in
      let few = few_of creation_key creation_in creation_key_in creation_one ts k in
      let h = once.creations k in
      get-table_of creation_key (filter_map creation_in ts) k
      ∙ none_found creation_key (test_of (coded× name_row.coded creation_row.coded)) k (filter_map creation_in ts) (omega (arith, one, few, h))

  is_there : fm.get (write others k (Some (maker, x))) k ≡ Some (maker, x)
  is_there = get-write_same others k (Some (maker, x))

  gone : write (write others k (Some (maker, x))) k None ≡ others
  gone = write_again others k (Some (maker, x)) None ∙ write_nothing others k absent

  pub got : (bound : List TableKey) (w : History) → fm.get (image_of bound (CreationThing (maker, x) ∷ ts) w).creations (made_key maker x.serial) ≡ Some (maker, x)
  unfolding image_of
  got bound w = is_there

  pub binds : (bound later : List TableKey) (w v : History) → HasSameItems later (name_key (name.Uan x.name) ∷ bound) → Continues w v [] [] [] w.posted
      → s.bind_creation x (s.drop_creation maker x.serial (image_of bound (CreationThing (maker, x) ∷ ts) w)) ≡ image_of later (ActorThing (s.bound_actor x, 0) ∷ ts) v
  unfolding image_of waiting_before_replies
  binds bound later w v same told = λ i. record {
    actors = write (table_of actor_key (filter_map actor_in ts)) (name_key (name.Uan x.name)) (Some (s.bound_actor x, 0));
    given = named (name_key (name.Uan x.name)) (filter_map anonymous_in ts) bound later same i;
    creations = gone i;
    waiting = waiting_after_replies ts;
    output = sym (told.output ∙ append-nil w.output) i;
    faults = sym (told.faults ∙ append-nil w.faults) i;
    answers = sym (told.answers ∙ append-nil w.answers) i;
    posted = sym told.posted i;
  }

  pub refuses : (bound : List TableKey) (w v : History) → Continues w v [] (record { maker = maker; serial = x.serial; kind = NameTaken } ∷ []) [] w.posted
      → s.add_fault NameTaken maker x.serial (s.drop_creation maker x.serial (image_of bound (CreationThing (maker, x) ∷ ts) w)) ≡ image_of bound ts v
  unfolding image_of waiting_before_replies
  refuses bound w v told = λ i. record (image_of bound ts w) {
    creations = gone i;
    output = sym (told.output ∙ append-nil w.output) i;
    faults = sym told.faults i;
    answers = sym (told.answers ∙ append-nil w.answers) i;
    posted = sym told.posted i;
  }

  pub given_is : (bound : List TableKey) (w : History) → s.is_given x (image_of bound (CreationThing (maker, x) ∷ ts) w) ≡ fs.contains (fs.from_list {R = key_cmp} (filter_map anonymous_in ts ++ bound)) (name_key (name.Uan x.name))
  unfolding image_of
  given_is bound w = refl

  pub bound_stands : count_at_key actor_key_in (name_key (name.Uan x.name)) ts ≡ 0 → StandOnce (ActorThing (s.bound_actor x, 0) ∷ ts)
  bound_stands none = record {
    actors = λ q. by_key q;
    messages = λ q. (let u = once.messages q in omega arith);
    joins = λ q. (let u = once.joins q in omega arith);
    creations = λ q. (let u = once.creations q in omega arith);
    replies = λ r some. (let u = once.replies r some in omega arith);
  }
    where
      by_key : (q : TableKey) → one_if_key q (Some (name_key (name.Uan x.name))) + count_at_key actor_key_in q ts ≤ 1
      by_key q = elim (words_tells q (name_key (name.Uan x.name))) [
        | inl e ↦ let one : one_if_key q (Some (name_key (name.Uan x.name))) ≡ 1 = ap (λ (b : Bool). if◌then◌else◌ {A = ℕ} b 1 0) e.0 in
            let zero : count_at_key actor_key_in q ts ≡ 0 = ap (λ z. count_at_key actor_key_in z ts) e.1 ∙ none in omega (arith, one, zero)
        | inr e ↦ let no : one_if_key q (Some (name_key (name.Uan x.name))) ≡ 0 = ap (λ (b : Bool). if◌then◌else◌ {A = ℕ} b 1 0) e.0 in let u = once.actors q in omega (arith, no, u)
      ]

-- ---- the law

abbrev asked : Name × Creation → Uan → List Piece → List Piece
asked x u rest = WaitingCreation x ∷ Put (creation_key x) u ∷ rest

now_once : (x : Name × Creation) (u : Uan) (rest : List Piece) → IsAlone (creation_key x) rest → StandOnce (things (WaitingCreation x ∷ Put (creation_key x) u ∷ rest)) → StandOnce (CreationThing x ∷ things rest)
now_once x u rest alone once = subst (λ (ts : List Thing). StandOnce ts) (are_decided.pending x u rest alone) once

pub bindings_step : BindingsAreSteps
bindings_step = record {
  bind = λ authorities x u rest bound later w v alone served new same once told.
      let ts = things rest in
      let c : Configuration = image_of bound (CreationThing x ∷ ts) w in
      let now = now_once x u rest alone once in
      let given : s.is_given x.1 c ≡ false = given_is x.0 x.1 ts now bound w ∙ new in
      ap (λ zs. s.bind_step authorities x.0 x.1.serial (image_of bound zs w)) (are_decided.pending x u rest alone)
      ∙ ap (λ o. s.bind authorities x.0 x.1.serial o c) (got x.0 x.1 ts now bound w)
      ∙ ap (λ b. if b && not (s.is_given x.1 c) then Some (s.bind_creation x.1 (s.drop_creation x.0 x.1.serial c)) else None) served
      ∙ ap (λ b. if true && not b then Some (s.bind_creation x.1 (s.drop_creation x.0 x.1.serial c)) else None) given
      ∙ ap Some (binds x.0 x.1 ts now bound later w v same told)
      ∙ ap (λ zs. Some (image_of later zs v)) (sym (are_decided.bound x rest alone));
  bound_once = λ x u rest alone none once.
      subst (λ (ts : List Thing). StandOnce ts) (sym (are_decided.bound x rest alone)) (bound_stands x.0 x.1 (things rest) (now_once x u rest alone once) none);
  refuse = λ x u rest bound w v alone taken once told.
      let ts = things rest in
      let c : Configuration = image_of bound (CreationThing x ∷ ts) w in
      let now = now_once x u rest alone once in
      let given : s.is_given x.1 c ≡ true = given_is x.0 x.1 ts now bound w ∙ taken in
      ap (λ zs. s.refuse_step x.0 x.1.serial (image_of bound zs w)) (are_decided.pending x u rest alone)
      ∙ ap (λ o. s.refuse x.0 x.1.serial o c) (got x.0 x.1 ts now bound w)
      ∙ ap (λ b. if b then Some (s.add_fault NameTaken x.0 x.1.serial (s.drop_creation x.0 x.1.serial c)) else None) given
      ∙ ap Some (refuses x.0 x.1 ts now bound w v told)
      ∙ ap (λ zs. Some (image_of bound zs v)) (sym (are_decided.refused x rest alone));
  refused_once = λ x u rest alone once.
      subst (λ (ts : List Thing). StandOnce ts) (sym (are_decided.refused x rest alone)) (tail_once (CreationThing x) (things rest) (now_once x u rest alone once));
}
