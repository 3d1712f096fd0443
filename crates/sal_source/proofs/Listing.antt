-- What lists with distinct keys give, take and lose.
use Rattle.std.proofs.Common.{◌≡◌, ℕ, ◌++◌, Bool, true, false, cond, List, [], ◌∷◌, Some, None, refl, sym, ap, subst, ◌∙◌}
use Rattle.std.specs.Prelude.{slice_get, slice_set, remove}
use Rattle.std.specs.FinMap as fm
use Rattle.sal_source.specs.Table.{TableKey, key_eq, Table, write, table_of}
use Rattle.sal_source.specs.code.Lists.{first_at_key, IsFirst, Finds, AreDistinct}
use Rattle.sal_source.proofs.Tables.{same_words, same_table, get-write, IsFirst-key, IsFirst-get, IsFirst-table, none-table, Finds-first, AreDistinct-set, AreDistinct-push, AreDistinct-remove, table-set, table-push, table-remove}

pub write_nothing : {X : Type 0} (t : Table X) (k : TableKey) → fm.get t k ≡ None → write t k None ≡ t
write_nothing t k none = same_table _ _ (λ q. get-write t k None q ∙ at q (key_eq q k) refl)
  where
    at : (q : TableKey) (b : Bool) → key_eq q k ≡ b → cond b None (fm.get t q) ≡ fm.get t q
    at q true e = sym (ap (fm.get t) (same_words q k e) ∙ none)
    at q false e = refl

module _ {X : Type 0} (key : X → TableKey) where
  pub record Puts (xs : List X) (x : X) (new : List X) : Type 0 where
    pub distinct : AreDistinct key new
    pub table : table_of key new ≡ write (table_of key xs) (key x) (Some x)

  pub put_at : (q : TableKey) (xs : List X) (i : ℕ) (x : X) (new : List X) → q ≡ key x → Finds key q xs (Some i) → AreDistinct key xs → new ≡ slice_set xs i x → Puts xs x new
  put_at q xs i x new e f d n =
      let P : TableKey → Type 0 = λ k. IsFirst key k xs i f.0 in
      let first = subst P e f.1 in
      let D : List X → Type 0 = λ ys. AreDistinct key ys in
      record { distinct = subst D (sym n) (AreDistinct-set key xs i x f.0 d first); table = ap (table_of key) n ∙ table-set key xs i x f.0 first }

  pub put_last : (q : TableKey) (xs : List X) (x : X) (new : List X) → q ≡ key x → first_at_key key q xs ≡ None → AreDistinct key xs → new ≡ xs ++ x ∷ [] → Puts xs x new
  put_last q xs x new e f d n =
      let none = ap (λ k. first_at_key key k xs) (sym e) ∙ f in
      let D : List X → Type 0 = λ ys. AreDistinct key ys in
      record { distinct = subst D (sym n) (AreDistinct-push key xs x d none); table = ap (table_of key) n ∙ table-push key xs x none }

  pub record Took (q : TableKey) (xs : List X) (y : X) (new : List X) : Type 0 where
    pub distinct : AreDistinct key new
    pub taken : Some y ≡ fm.get (table_of key xs) q
    pub keyed : q ≡ key y
    pub rest : table_of key new ≡ write (table_of key xs) q None

  pub took : (q : TableKey) (xs : List X) (i : ℕ) (y : X) (new : List X) → Finds key q xs (Some i) → slice_get xs i ≡ Some y → AreDistinct key xs → new ≡ remove xs i → Took q xs y new
  took q xs i y new f e d n =
      let first = Finds-first key q xs i y f e in
      let D : List X → Type 0 = λ ys. AreDistinct key ys in
      record {
        distinct = subst D (sym n) (AreDistinct-remove key q xs i y d first);
        taken = sym (IsFirst-table key q xs i y first);
        keyed = IsFirst-key key q xs i y first;
        rest = ap (table_of key) n ∙ table-remove key q xs i y d first;
      }

  pub none_taken : (q : TableKey) (xs : List X) → first_at_key key q xs ≡ None → None ≡ fm.get (table_of key xs) q
  none_taken q xs f = sym (none-table key q xs f)

  pub none_lost : (q : TableKey) (xs : List X) → first_at_key key q xs ≡ None → table_of key xs ≡ write (table_of key xs) q None
  none_lost q xs f = sym (write_nothing (table_of key xs) q (none-table key q xs f))

  pub got_at : (q : TableKey) (xs : List X) (i : ℕ) → Finds key q xs (Some i) → slice_get xs i ≡ fm.get (table_of key xs) q
  got_at q xs i f = IsFirst-get key q xs i f.0 f.1 ∙ sym (IsFirst-table key q xs i f.0 f.1)
