-- What keeps tables keyed and actors tidy.
use Rattle.std.proofs.Common.{◌≡◌, ◌≢◌, Bool, true, false, cond, Option, Some, None, Result, Ok, Err, OnOk, OnErr, IfSome, is_some, true≢false, refl, sym, ap, subst, ◌∙◌, Bor}
use Rattle.std.specs.Option.{option_copied, option_flatten, unwrap_or}
use Rattle.std.specs.FinMap as fm
use Rattle.sal_value.specs.declared.name.Name.{Name}
use Rattle.sal_value.specs.declared.value.Value.{Value}
use Rattle.sal_value.specs.declared.no_memory.NoMemory.{NoMemory}
use Rattle.sal_value.specs.Table.{TableKey, Table, key_cmp, key_eq, write}
use Rattle.sal_value.proofs.Keys.{same_names}
use Rattle.sal_value.proofs.Tables.{some_is, same_words, get-write}
use Rattle.sal_mail.specs.declared.message.Reply.{Reply}
use Rattle.sal_source.specs.Keys.{name_key}
use Rattle.sal_book.specs.Book.{Book, book_after_reply}
use Rattle.sal_resident.specs.declared.resident.Resident.{Resident}
use Rattle.sal_tidy.specs.Tidy.{IsTidy}
use Rattle.sal_tidy.proofs.Keeping.{after_replies}
use Rattle.sal_entries.specs.Entries.{Entries, value_at, values, overlaid}
use Rattle.sal_entries.proofs.Laws.{get-values, get-overlaid}
use Rattle.sal_desk.specs.code.Keyed.{AreKeyed}

-- ---- tidy actors

-- whether the reply came into the book or not
pub given_tidy : (r : Resident) (b : Book) (reply : Reply) (value : Value) {A : Type 0} (x : Result A NoMemory) → OnOk x (b ≡ book_after_reply reply value r.book) → OnErr x (b ≡ r.book) → IsTidy r → IsTidy (record r { book = b })
given_tidy r b reply value (Ok a) is same tidy = subst (λ (c : Book). IsTidy (record r { book = c })) (sym is) (after_replies r reply value tidy)
given_tidy r b reply value (Err e) is same tidy = subst (λ (c : Book). IsTidy (record r { book = c })) (sym same) tidy

-- ---- tables of actors

none_isnt : {A : Type 0} {x : A} → None ≡ Some x → ⊥
none_isnt e = true≢false (sym (ap is_some e))

pub empty_keyed : AreKeyed fm.empty
empty_keyed = record { keyed = λ k r is. absurd (none_isnt (sym (ap option_flatten (fm.get-empty key_cmp k)) ∙ is)) }

-- the same values
pub same_keyed : (t u : Entries Resident) → values u ≡ values t → AreKeyed t → AreKeyed u
same_keyed t u same all = record {
  keyed = λ k r is. all.keyed k r (sym (get-values t k) ∙ ap (λ v. fm.get v k) (sym same) ∙ get-values u k ∙ is);
}

-- after changes
pub changed_keyed : (more t u : Entries Resident) → values u ≡ overlaid more (values t) → AreKeyed more → AreKeyed t → AreKeyed u
changed_keyed more t u new changes all = record {
  keyed = λ k r is. at k r (fm.get more k) refl (sym (get-overlaid more (values t) k) ∙ ap (λ v. fm.get v k) (sym new) ∙ get-values u k ∙ is);
}
  where
    at : (k : TableKey) (r : Resident) (o : Option (Option Resident)) → fm.get more k ≡ o → unwrap_or o (fm.get (values t) k) ≡ Some r → name_key r.name ≡ k
    at k r None there is = all.keyed k r (sym (get-values t k) ∙ is)
    at k r (Some o) there is = changes.keyed k r (ap option_flatten there ∙ is)

-- what may stand at the key
abbrev pub IsKeyed : TableKey → Option Resident → Type 0
IsKeyed k None = Unit {0}
IsKeyed k (Some r) = name_key r.name ≡ k

written_keyed : (t : Entries Resident) (k : TableKey) (o : Option Resident) → IsKeyed k o → AreKeyed t → AreKeyed (write t k (Some o))
written_keyed t k o new all = record {
  keyed = λ q r is. at q r o new (key_eq q k) refl (sym (ap option_flatten (get-write t k (Some o) q)) ∙ is);
}
  where
    at : (q : TableKey) (r : Resident) (o : Option Resident) → IsKeyed k o → (b : Bool) → key_eq q k ≡ b → option_flatten (cond b (Some o) (fm.get t q)) ≡ Some r → name_key r.name ≡ q
    at q r None new true same is = absurd (none_isnt is)
    at q r (Some s) new true same is = ap (λ (x : Resident). name_key x.name) (sym (some_is is)) ∙ new ∙ sym (same_words q k same)
    at q r o new false same is = all.keyed q r is

-- an actor under its name, or none, whether memory sufficed or not
pub set_keyed : (t u : Entries Resident) (k : TableKey) (o : Option Resident) {A : Type 0} (x : Result A NoMemory) → OnOk x (u ≡ write t k (Some o)) → OnErr x (u ≡ t) → IsKeyed k o → AreKeyed t → AreKeyed u
set_keyed t u k o (Ok a) is same new all = subst AreKeyed (sym is) (written_keyed t k o new all)
set_keyed t u k o (Err e) is same new all = subst AreKeyed (sym same) all

-- who stands at a name's key has the name
pub has_name : (t : Entries Resident) (n : Name) (o : Option (Bor Resident)) → option_copied o ≡ value_at t (name_key n) → AreKeyed t → IfSome o (λ s. s.now.name ≡ n)
has_name t n None is all = tt
has_name t n (Some s) is all = same_names s.now.name n (all.keyed (name_key n) s.now (sym is))
