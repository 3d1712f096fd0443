-- The order of keys.
use Rattle.std.specs.Prelude.{ℕ, List, ◌∷◌}
use Rattle.sal_value.specs.Order.{key}
use Rattle.sal_mail.specs.declared.key.Key.{Key}

-- The numbers by which keys are ordered: the number first, and then those of the maker's name. Equal ones are
-- those of equal keys.
abbrev pub key_words : Key → List ℕ
key_words k = k.serial ∷ key k.maker
