-- A text is refused for one reason.
use Rattle.std.proofs.Common.{◌≡◌, ℕ, Bool, true, false, List, ◌++◌, refl, ap, subst, ◌∙◌}
use Rattle.sal_value.specs.declared.name.NameFault.{NameFault}
use Rattle.sal_value.specs.declared.name.NameFault.TheVariants as fault
use Rattle.sal_value.specs.Names.{lower_case, is_host, AddressForm, name_form, locator_form, Parts, IsPort, IsRefused, NamesAreRefusedOnce}
use Rattle.sal_value.proofs.Readings.{parts_one}

not_both : (b : Bool) → b ≡ true → b ≡ false → ⊥
not_both b p q = cc

no_scheme : (kind : AddressForm) (text h p x : List ℕ) → IsRefused kind text fault.Scheme → Parts kind.scheme text h p x → ⊥
no_scheme kind text h p x r parts = r parts.written (h ++ (p ++ x)) parts.whole parts.is_scheme

no_host : (kind : AddressForm) (text h p x : List ℕ) → IsRefused kind text fault.Host → Parts kind.scheme text h p x → is_host (lower_case h) ≡ true → ⊥
no_host kind text h p x (k, q, y, parts, bad) good host =
    not_both (is_host (lower_case h)) host (ap (λ (z : List ℕ). is_host (lower_case z)) (parts_one kind.scheme text h p x k q y good parts).0 ∙ bad)

no_port : (kind : AddressForm) (text h p x : List ℕ) (n : ℕ) → IsRefused kind text fault.Port → Parts kind.scheme text h p x → IsPort kind.usual p n → ⊥
no_port kind text h p x n (k, q, y, parts, host, bad) good port =
    bad n (subst (λ z. IsPort kind.usual z n) (parts_one kind.scheme text h p x k q y good parts).1 port)

-- of two refusals the first part that isn't good decides
one_refusal : (kind : AddressForm) (text : List ℕ) (f g : NameFault) → (f ≡ fault.Memory → ⊥) → (g ≡ fault.Memory → ⊥) → IsRefused kind text f → IsRefused kind text g → f ≡ g
one_refusal kind text fault.Memory g m l a b = absurd (m refl)
one_refusal kind text fault.Scheme fault.Memory m l a b = absurd (l refl)
one_refusal kind text fault.Host fault.Memory m l a b = absurd (l refl)
one_refusal kind text fault.Port fault.Memory m l a b = absurd (l refl)
one_refusal kind text fault.Path fault.Memory m l a b = absurd (l refl)
one_refusal kind text fault.Scheme fault.Scheme m l a b = refl
one_refusal kind text fault.Scheme fault.Host m l a (h, p, x, parts, bad) = absurd (no_scheme kind text h p x a parts)
one_refusal kind text fault.Scheme fault.Port m l a (h, p, x, parts, host, bad) = absurd (no_scheme kind text h p x a parts)
one_refusal kind text fault.Scheme fault.Path m l a (h, p, x, parts, host, port, bad) = absurd (no_scheme kind text h p x a parts)
one_refusal kind text fault.Host fault.Scheme m l (h, p, x, parts, bad) b = absurd (no_scheme kind text h p x b parts)
one_refusal kind text fault.Host fault.Host m l a b = refl
one_refusal kind text fault.Host fault.Port m l a (h, p, x, parts, host, bad) = absurd (no_host kind text h p x a parts host)
one_refusal kind text fault.Host fault.Path m l a (h, p, x, parts, host, port, bad) = absurd (no_host kind text h p x a parts host)
one_refusal kind text fault.Port fault.Scheme m l (h, p, x, parts, host, bad) b = absurd (no_scheme kind text h p x b parts)
one_refusal kind text fault.Port fault.Host m l (h, p, x, parts, host, bad) b = absurd (no_host kind text h p x b parts host)
one_refusal kind text fault.Port fault.Port m l a b = refl
one_refusal kind text fault.Port fault.Path m l a (h, p, x, parts, host, port, bad) = absurd (no_port kind text h p x port.0 a parts port.1)
one_refusal kind text fault.Path fault.Scheme m l (h, p, x, parts, host, port, bad) b = absurd (no_scheme kind text h p x b parts)
one_refusal kind text fault.Path fault.Host m l (h, p, x, parts, host, port, bad) b = absurd (no_host kind text h p x b parts host)
one_refusal kind text fault.Path fault.Port m l (h, p, x, parts, host, port, bad) b = absurd (no_port kind text h p x port.0 b parts port.1)
one_refusal kind text fault.Path fault.Path m l a b = refl

pub names_are_refused_once : NamesAreRefusedOnce
names_are_refused_once = record {
  uan = λ text f g m l a b. one_refusal name_form text f g m l a b;
  ual = λ text f g m l a b. one_refusal locator_form text f g m l a b;
}
