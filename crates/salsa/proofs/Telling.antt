-- What is put into both sinks.
use Rattle.std.proofs.Common.{◌≡◌, ◌≢◌, ℕ, List, [], length, Option, Some, None, inl, inr, refl, ap, sym, subst, arith, ◌∙◌, append-nil}
use Rattle.std.proofs.lemmas.List.{take_all}
use Rattle.salsa.specs.Outside.{SinkState, Rose, Grew, GrewByPrefix}
use Rattle.salsa.specs.Top.{Puts, PutsBoth}

nothing_more : (t : Option (List ℕ)) → Grew t t []
nothing_more None = refl
nothing_more (Some bytes) = ap (λ b. Some b) (sym (append-nil bytes))

all_of : (before after : Option (List ℕ)) (bytes : List ℕ) → Grew before after bytes → GrewByPrefix before after bytes
all_of before after bytes g = (length bytes, subst (λ b. Grew before after b) (sym (take_all (length bytes) bytes (omega arith))) g)

pub both_put : (wanted : ℕ) (output errors : List ℕ) (status : ℕ) (out err out_after err_after : SinkState) → wanted ≢ 6 → Grew out.taken out_after.taken output → Puts wanted errors status err err_after
    → PutsBoth wanted output errors status out err out_after err_after
both_put wanted output errors status out err out_after err_after other grew puts = record {
  known = puts.known;
  taken = λ e. (grew, puts.taken e);
  fault = λ e. inr ((puts.fault e).0);
  prefixes = λ e. (all_of out.taken out_after.taken output grew, (puts.fault e).1);
}

pub first_failed : (wanted : ℕ) (output errors : List ℕ) (status : ℕ) (out err out_after err_after : SinkState) → status ≡ 6 → wanted ≢ 6 → Rose out.faults out_after.faults → GrewByPrefix out.taken out_after.taken output → err_after ≡ err
    → PutsBoth wanted output errors status out err out_after err_after
first_failed wanted output errors status out err out_after err_after six other rose prefix same = record {
  known = inr six;
  taken = λ e. absurd (other (sym e ∙ six));
  fault = λ _. inl rose;
  prefixes = λ _. (prefix, (0, subst (λ (s : SinkState). Grew err.taken s.taken []) (sym same) (nothing_more err.taken)));
}
