-- Names that are looked up.
use Rattle.std.proofs.Common.{◌≡◌, ℕ, Bool, true, false, if◌then◌else◌, List, [], ◌∷◌, ◌++◌, map, filter_map, slice_get, Option, Some, None, refl, sym, ap, ◌∙◌, append_assoc}
use Rattle.std.specs.Prelude.{option_map}
use Rattle.std.specs.List.{find}
use Rattle.std.specs.Str.{bytes_eq}
use Rattle.std.proofs.lemmas.List.{append-nil, map-append}
use Rattle.sal_value.specs.declared.value.Sort.{Sort}
use Rattle.sal_ast.specs.declared.program.TypeName.{TypeName}
use Rattle.sal_ast.specs.declared.program.Behavior.{Behavior}
use Rattle.sal_ast.specs.Members.{Field, fields_of, as_field}
use Rattle.sal_ast.specs.Sorts.{Scope, Variable, sort_of_local, sort_of_field, fields_in, name_sort, field_sort, type_sort}
use Rattle.sal_infer.specs.declared.scope.Declared.{Declared}
use Rattle.sal_infer.specs.Scopes.{declared_variable}
use Rattle.sal_infer.specs.code.Finding.{sort_named, members_in, field_type}

pub append_none : (xs : List Variable) → xs ++ [] ≡ xs
append_none xs = append-nil xs

-- the type that stands first, or else the other
abbrev pub sort_or : Option (Option Sort) → Option Sort → Option Sort
sort_or (Some s) d = s
sort_or None d = d

named_is : (name : List ℕ) (vs : List Variable) (d : Option Sort) → sort_of_local (find (λ v. bytes_eq v.name name) vs) d ≡ sort_or (sort_named name vs) d
named_is name [] d = refl
named_is name (v ∷ vs) d = cases (bytes_eq v.name name) (named_is name vs d)
  where
    cases : (b : Bool) → sort_of_local (find (λ w. bytes_eq w.name name) vs) d ≡ sort_or (sort_named name vs) d → sort_of_local (if b then Some v else find (λ w. bytes_eq w.name name) vs) d ≡ sort_or (if b then Some v.sort else sort_named name vs) d
    cases true h = refl
    cases false h = h

named-append : (name : List ℕ) (vs ws : List Variable) (d : Option Sort) → sort_or (sort_named name (vs ++ ws)) d ≡ sort_or (sort_named name vs) (sort_or (sort_named name ws) d)
named-append name [] ws d = refl
named-append name (v ∷ vs) ws d = cases (bytes_eq v.name name) (named-append name vs ws d)
  where
    cases : (b : Bool) → sort_or (sort_named name (vs ++ ws)) d ≡ sort_or (sort_named name vs) (sort_or (sort_named name ws) d) → sort_or (if b then Some v.sort else sort_named name (vs ++ ws)) d ≡ sort_or (if b then Some v.sort else sort_named name vs) (sort_or (sort_named name ws) d)
    cases true h = refl
    cases false h = h

-- the type of a name is that of the first local, and else of the field
pub name_sort_is : (name : List ℕ) (behaviors : List Behavior) (mine : ℕ) (vs ws : List Variable) → name_sort name (record { behaviors = behaviors; mine = mine; locals = vs ++ ws }) ≡ sort_or (sort_named name vs) (sort_or (sort_named name ws) (field_sort name (record { behaviors = behaviors; mine = mine; locals = vs ++ ws })))
unfolding name_sort
name_sort_is name behaviors mine vs ws = named_is name (vs ++ ws) _ ∙ named-append name vs ws _

-- the type that a type's name means, if there is a name
abbrev pub type_or_none : Option TypeName → List Behavior → Option Sort
type_or_none None behaviors = None
type_or_none (Some t) behaviors = type_sort t behaviors

found_sort : (f : Option Field) (behaviors : List Behavior) → sort_of_field f behaviors ≡ type_or_none (option_map (λ g. g.sort) f) behaviors
found_sort None behaviors = refl
found_sort (Some f) behaviors = refl

fields_are : (b : Option Behavior) → fields_in b ≡ filter_map as_field (members_in b)
unfolding fields_of
fields_are None = refl
fields_are (Some b) = refl

-- the type of a field is that of the first member of its name
pub field_sort_is : (name : List ℕ) (s : Scope) → field_sort name s ≡ type_or_none (field_type name (members_in (slice_get s.behaviors s.mine))) s.behaviors
unfolding field_sort
field_sort_is name s =
    ap (λ fs. sort_of_field (find (λ f. bytes_eq f.name name) fs) s.behaviors) (fields_are (slice_get s.behaviors s.mine))
    ∙ found_sort (find (λ f. bytes_eq f.name name) (filter_map as_field (members_in (slice_get s.behaviors s.mine)))) s.behaviors

pub declared_more : (vs : List Variable) (ds : List Declared) (d : Declared) → vs ++ map declared_variable (ds ++ d ∷ []) ≡ (vs ++ map declared_variable ds) ++ declared_variable d ∷ []
declared_more vs ds d = ap (λ ws. vs ++ ws) (map-append declared_variable ds (d ∷ [])) ∙ sym (append_assoc vs (map declared_variable ds) (declared_variable d ∷ []))
