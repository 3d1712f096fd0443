-- A table as it is after changes that are kept beside it.
use Rattle.std.proofs.Common.{◌≡◌, Bool, true, false, Option, Some, None, Bor, refl, sym, ap, ◌∙◌, true≢false}
use Rattle.std.specs.Option.{is_some, option_copied, option_flatten, unwrap_or}
use Rattle.std.specs.FinMap as fm
use Rattle.sal_value.specs.Table.{TableKey, Table, write}
use Rattle.sal_entries.specs.Entries.{Entries, value_at, values, overlaid}
use Rattle.sal_entries.proofs.Laws.{get-values, get-overlaid, overlaid-write}

pub some_copied : {A : Type 0} (o : Option (Bor A)) → is_some o ≡ is_some (option_copied o)
some_copied None = refl
some_copied (Some a) = refl

module _ {V : Type 0} (c : Entries V) (b : Table V) (k : TableKey) where
  -- where there is a change, its value is there
  pub from_changes : (v : Option V) → is_some (fm.get c k) ≡ true → v ≡ value_at c k → v ≡ fm.get (overlaid c b) k
  from_changes v there is = is ∙ at (fm.get c k) there ∙ sym (get-overlaid c b k)
    where
      at : (o : Option (Option V)) → is_some o ≡ true → option_flatten o ≡ unwrap_or o (fm.get b k)
      at None h = absurd (true≢false (sym h))
      at (Some o) h = refl

  -- elsewhere what was there
  pub from_before : (s : Entries V) (v : Option V) → is_some (fm.get c k) ≡ false → v ≡ value_at s k → values s ≡ b → v ≡ fm.get (overlaid c b) k
  from_before s v none is view = is ∙ sym (get-values s k) ∙ ap (λ t. fm.get t k) view ∙ at (fm.get c k) none ∙ sym (get-overlaid c b k)
    where
      at : (o : Option (Option V)) → is_some o ≡ false → fm.get b k ≡ unwrap_or o (fm.get b k)
      at None h = refl
      at (Some o) h = absurd (true≢false h)

  -- one more change
  pub changed : (o : Option V) (d : Entries V) → d ≡ write c k (Some o) → overlaid d b ≡ write (overlaid c b) k o
  changed o d is = ap (λ x. overlaid x b) is ∙ overlaid-write c b k o
