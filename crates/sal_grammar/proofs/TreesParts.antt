-- Facts of expressions, form by form.
use Rattle.std.proofs.Common.{◌≡◌, ℕ, zero, suc, ◌≤◌, max, Bool, true, false, ◌&&◌, List, [], ◌∷◌, ◌++◌, map, Option, Some, None, option_map, refl, sym, ap, ◌∙◌, subst, arith, rules}
use Rattle.std.specs.Prelude.{nat_le, nat_eq}
use Rattle.std.proofs.lemmas.Bool.{leb-true, le-leb}
use Rattle.sal_ast.specs.declared.expression.At.{At}
use Rattle.sal_ast.specs.declared.expression.Expr.{Expr, out-Expr, roll-Expr, the_lemmas}
use Rattle.sal_ast.specs.declared.expression.Expr.TheOpen.{Expr-F, Suffix-F}
use Rattle.sal_ast.specs.declared.expression.Expr.TheVariants as e
use Rattle.sal_ast.specs.declared.expression.Operand.{Operand}
use Rattle.sal_ast.specs.declared.expression.Suffix.{Suffix, out-Suffix, roll-Suffix}
use Rattle.sal_ast.specs.declared.expression.Suffix.TheVariants as s
use Rattle.sal_ast.specs.declared.program.Ident.{Ident}
use Rattle.sal_ast.specs.declared.program.TypeName.{TypeName}
use Rattle.sal_ast.specs.Depth.{greatest, or_zero, depth_expr, depth_suffix, depth_at}
use Rattle.sal_ast.specs.Regular.{Shape, has_rank, shape_of, shape, suffix_is_regular, at_is_regular, expr_is_regular, all_regular, all_true, first_place}
use Rattle.sal_ast.specs.Regular as regular
use Rattle.sal_ast.proofs.DepthEquations.{depth-Paren, depth-Neg, depth-Not, depth-Suffixed, depth-New, depth-Make, depth-ListOf, depth-ByName, depth-Index, depth-Length, depth-At, depth-Name, depth-Own}
use Rattle.sal_ast.proofs.RegularEquations.{regular-Paren, regular-Neg, regular-Not, regular-Suffixed, regular-New, regular-Make, regular-ListOf, regular-ByName, regular-Index, regular-Length, regular-At, regular-Name, regular-Own}
use Rattle.sal_grammar.proofs.Exactness.{differ}
use Rattle.sal_grammar.proofs.TreesTokens.{left_true, right_true, both_true}
use Rattle.sal_grammar.proofs.TreesSteps.{Fine, Each, AllOf, fine_each, each_fine, most, first_most, second_most, less, more, least, not_less}
use Rattle.sal_grammar.proofs.TreesOperators.{Ranked, ranked_by, stands_by, depth_by, regular_by, stands_in, regular_in, rank_in}

abbrev pub SuffixFine : ℕ → Suffix → Type 0
SuffixFine d = Fine suffix_is_regular depth_suffix d

abbrev pub AtFine : ℕ → At → Type 0
AtFine d = Fine at_is_regular depth_at d

abbrev pub IfThere : {A : Type 0} → (A → Type 0) → Option A → Type 0
IfThere F None = Unit {0}
IfThere F (Some a) = F a

-- an expression anywhere
pub any_rank : {d : ℕ} (x : Expr) → expr_is_regular x ≡ true → depth_expr x ≤ d → Ranked 0 d x
any_rank x r l = record { good = stands_in 0 (shape_of x) (omega arith) r; fits = l }

pub tight : (rank n : ℕ) {d : ℕ} (x : Expr) → n ≤ rank → Ranked rank d x → Ranked n d x
tight rank n x l f =
    let r = rank_in rank (shape_of x) f.good in
    record { good = stands_in n (shape_of x) (omega (arith, l, r)) (regular_in rank (shape_of x) f.good); fits = f.fits }

-- ---- parentheses and signs

pub paren_fine : {n : ℕ} (at : ℕ) (x : Expr) → Ranked 0 n x → Ranked 8 (suc n) (e.Paren at x)
paren_fine at x f = ranked_by 8 (regular-Paren at x) (depth-Paren at x) (regular_by 0 f) (more f.fits)

pub paren_parts : {n : ℕ} (at : ℕ) (x : Expr) → Ranked 8 (suc n) (e.Paren at x) → Ranked 0 n x
paren_parts at x f = any_rank x (stands_by 8 (regular-Paren at x) f) (less (depth_by 8 (depth-Paren at x) f))

pub not_fine : {n : ℕ} (at : ℕ) (x : Expr) → Ranked 6 n x → Ranked 6 (suc n) (e.Not at x)
not_fine at x f = ranked_by 6 (regular-Not at x) (depth-Not at x) f.good (more f.fits)

pub neg_fine : {n : ℕ} (at : ℕ) (x : Expr) → Ranked 6 n x → Ranked 6 (suc n) (e.Neg at x)
neg_fine at x f = ranked_by 6 (regular-Neg at x) (depth-Neg at x) f.good (more f.fits)

pub not_parts : {n : ℕ} (at : ℕ) (x : Expr) → Ranked 6 (suc n) (e.Not at x) → Ranked 6 n x
not_parts at x f = record { good = stands_by 6 (regular-Not at x) f; fits = less (depth_by 6 (depth-Not at x) f) }

pub neg_parts : {n : ℕ} (at : ℕ) (x : Expr) → Ranked 6 (suc n) (e.Neg at x) → Ranked 6 n x
neg_parts at x f = record { good = stands_by 6 (regular-Neg at x) f; fits = less (depth_by 6 (depth-Neg at x) f) }

-- ---- names

pub name_fine : {d : ℕ} (name : Ident) → Ranked 8 d (e.Name name)
name_fine name = ranked_by 8 (regular-Name name) (depth-Name name) refl least

pub own_fine : {d : ℕ} (at : ℕ) (name : Ident) → Ranked 8 d (e.Own at name)
own_fine at name = ranked_by 8 (regular-Own at name) (depth-Own at name) refl least

pub getter_fine : {n : ℕ} (at : ℕ) (cast : Option Ident) (behavior : Ident) (x : Expr) → first_place at cast behavior ≡ true → Ranked 0 n x → Ranked 8 (suc n) (e.ByName at cast behavior x)
getter_fine at cast behavior x h f =
    ranked_by 8 (regular-ByName at cast behavior x) (depth-ByName at cast behavior x) (both_true (first_place at cast behavior) (expr_is_regular x) h (regular_by 0 f)) (more f.fits)

pub getter_place : {n : ℕ} (at : ℕ) (cast : Option Ident) (behavior : Ident) (x : Expr) → Ranked 8 n (e.ByName at cast behavior x) → first_place at cast behavior ≡ true
getter_place at cast behavior x f = left_true (first_place at cast behavior) (expr_is_regular x) (stands_by 8 (regular-ByName at cast behavior x) f)

pub getter_parts : {n : ℕ} (at : ℕ) (cast : Option Ident) (behavior : Ident) (x : Expr) → Ranked 8 (suc n) (e.ByName at cast behavior x) → Ranked 0 n x
getter_parts at cast behavior x f =
    any_rank x (right_true (first_place at cast behavior) (expr_is_regular x) (stands_by 8 (regular-ByName at cast behavior x) f)) (less (depth_by 8 (depth-ByName at cast behavior x) f))

-- ---- suffixes

pub index_fine : {n : ℕ} (at : ℕ) (x : Expr) → Ranked 0 n x → SuffixFine (suc n) (s.Index at x)
index_fine {n = n} at x f = record { good = regular-Index at x ∙ regular_by 0 f; fits = subst (λ z. z ≤ suc n) (sym (depth-Index at x)) (more f.fits) }

pub index_parts : {n : ℕ} (at : ℕ) (x : Expr) → SuffixFine (suc n) (s.Index at x) → Ranked 0 n x
index_parts {n = n} at x f = any_rank x (sym (regular-Index at x) ∙ f.good) (less (subst (λ z. z ≤ suc n) (depth-Index at x) f.fits))

pub index_deep : (at : ℕ) (x : Expr) → SuffixFine 0 (s.Index at x) → ⊥
index_deep at x f = not_less (subst (λ z. z ≤ 0) (depth-Index at x) f.fits)

pub length_fine : {d : ℕ} (at : ℕ) → SuffixFine d (s.Length at)
length_fine {d = d} at = record { good = regular-Length at; fits = subst (λ z. z ≤ d) (sym (depth-Length at)) least }

pub suffixes_all : AllOf suffix_is_regular (λ os. all_true (map suffix_is_regular os))
suffixes_all = record { none = refl; more = λ x xs. refl }

pub suffixed_fine : {d : ℕ} (x : Expr) (o : Suffix) (os : List Suffix) → Ranked 8 d x → Each (SuffixFine d) (o ∷ os) → Ranked 7 d (e.Suffixed x (o ∷ os))
suffixed_fine x o os f h =
    let p = fine_each suffixes_all (o ∷ os) h in
    ranked_by 7 (regular-Suffixed x (o ∷ os)) (depth-Suffixed x (o ∷ os)) (both_true (has_rank 8 (shape_of x)) (all_true (map suffix_is_regular (o ∷ os))) f.good p.good) (most f.fits p.fits)

pub suffixed_first : {d : ℕ} (x : Expr) (o : Suffix) (os : List Suffix) → Ranked 7 d (e.Suffixed x (o ∷ os)) → Ranked 8 d x
suffixed_first x o os f = record {
  good = left_true (has_rank 8 (shape_of x)) (all_true (map suffix_is_regular (o ∷ os))) (stands_by 7 (regular-Suffixed x (o ∷ os)) f);
  fits = first_most (depth_expr x) (greatest (map depth_suffix (o ∷ os))) (depth_by 7 (depth-Suffixed x (o ∷ os)) f);
}

pub suffixed_parts : {d : ℕ} (x : Expr) (o : Suffix) (os : List Suffix) → Ranked 7 d (e.Suffixed x (o ∷ os)) → Each (SuffixFine d) (o ∷ os)
suffixed_parts x o os f = each_fine suffixes_all (o ∷ os) (record {
  good = right_true (has_rank 8 (shape_of x)) (all_true (map suffix_is_regular (o ∷ os))) (stands_by 7 (regular-Suffixed x (o ∷ os)) f);
  fits = second_most (depth_expr x) (greatest (map depth_suffix (o ∷ os))) (depth_by 7 (depth-Suffixed x (o ∷ os)) f);
})

-- ---- lists of expressions

exprs_all : AllOf expr_is_regular (λ xs. all_regular (map shape_of xs))
exprs_all = record { none = refl; more = λ x xs. refl }

ranked_each : (d : ℕ) (xs : List Expr) → Each (Ranked 0 d) xs → Each (Fine expr_is_regular depth_expr d) xs
ranked_each d [] h = tt
ranked_each d (x ∷ xs) h = (record { good = regular_by 0 h.0; fits = h.0.fits }, ranked_each _ xs h.1)

each_ranked : (d : ℕ) (xs : List Expr) → Each (Fine expr_is_regular depth_expr d) xs → Each (Ranked 0 d) xs
each_ranked d [] h = tt
each_ranked d (x ∷ xs) h = (any_rank x h.0.good h.0.fits, each_ranked _ xs h.1)

pub exprs_regular : (d : ℕ) (xs : List Expr) → Each (Ranked 0 d) xs → all_regular (map shape_of xs) ≡ true
exprs_regular d xs h = (fine_each exprs_all xs (ranked_each _ xs h)).good

pub exprs_depth : {d : ℕ} (xs : List Expr) → Each (Ranked 0 d) xs → greatest (map depth_expr xs) ≤ d
exprs_depth xs h = (fine_each exprs_all xs (ranked_each _ xs h)).fits

pub exprs_parts : {d : ℕ} (xs : List Expr) → all_regular (map shape_of xs) ≡ true → greatest (map depth_expr xs) ≤ d → Each (Ranked 0 d) xs
exprs_parts xs r l = each_ranked _ xs (each_fine exprs_all xs (record { good = r; fits = l }))

-- ---- an expression that may be missing

pub option_regular : (d : ℕ) (x : Option Expr) → IfThere (Ranked 0 d) x → regular.option_is_regular x ≡ true
option_regular d None h = refl
option_regular d (Some x) h = regular_by 0 h

pub option_depth : {d : ℕ} (x : Option Expr) → IfThere (Ranked 0 d) x → or_zero (option_map depth_expr x) ≤ d
option_depth None h = least
option_depth (Some x) h = h.fits

pub option_parts : {d : ℕ} (x : Option Expr) → regular.option_is_regular x ≡ true → or_zero (option_map depth_expr x) ≤ d → IfThere (Ranked 0 d) x
option_parts None r l = tt
option_parts (Some x) r l = any_rank x r l

-- ---- where an actor is created

second_regular : (d : ℕ) (x : Option Expr) → IfThere (Ranked 0 d) x → regular.or_true (option_map (λ (z : Shape). z.regular) (option_map shape_of x)) ≡ true
second_regular d None h = refl
second_regular d (Some x) h = regular_by 0 h

second_parts : {d : ℕ} (x : Option Expr) → regular.or_true (option_map (λ (z : Shape). z.regular) (option_map shape_of x)) ≡ true → or_zero (option_map depth_expr x) ≤ d → IfThere (Ranked 0 d) x
second_parts None r l = tt
second_parts (Some x) r l = any_rank x r l

pub at_fine : {d : ℕ} (p : At) → Ranked 0 d p.uan → IfThere (Ranked 0 d) p.ual → AtFine d p
at_fine {d = d} p f g = record {
  good = regular-At p ∙ both_true (expr_is_regular p.uan) _ (regular_by 0 f) (second_regular _ p.ual g);
  fits = subst (λ z. z ≤ d) (sym (depth-At p)) (most f.fits (option_depth p.ual g));
}

pub at_first : {d : ℕ} (p : At) → AtFine d p → Ranked 0 d p.uan
at_first {d = d} p f = any_rank p.uan (left_true (expr_is_regular p.uan) _ (sym (regular-At p) ∙ f.good)) (first_most (depth_expr p.uan) (or_zero (option_map depth_expr p.ual)) (subst (λ z. z ≤ d) (depth-At p) f.fits))

pub at_second : {d : ℕ} (p : At) → AtFine d p → IfThere (Ranked 0 d) p.ual
at_second {d = d} p f = second_parts p.ual (right_true (expr_is_regular p.uan) _ (sym (regular-At p) ∙ f.good)) (second_most (depth_expr p.uan) (or_zero (option_map depth_expr p.ual)) (subst (λ z. z ≤ d) (depth-At p) f.fits))

-- ---- what is new

place_regular : (d : ℕ) (p : Option At) → IfThere (AtFine d) p → regular.or_true (option_map at_is_regular p) ≡ true
place_regular d None h = refl
place_regular d (Some p) h = h.good

place_depth : {d : ℕ} (p : Option At) → IfThere (AtFine d) p → or_zero (option_map depth_at p) ≤ d
place_depth None h = least
place_depth (Some p) h = h.fits

place_parts : {d : ℕ} (p : Option At) → regular.or_true (option_map at_is_regular p) ≡ true → or_zero (option_map depth_at p) ≤ d → IfThere (AtFine d) p
place_parts None r l = tt
place_parts (Some p) r l = record { good = r; fits = l }

pub new_fine : {n : ℕ} (at : ℕ) (behavior : Ident) (args : List Expr) (p : Option At) → Each (Ranked 0 n) args → IfThere (AtFine n) p → Ranked 8 (suc n) (e.New at behavior args p)
new_fine at behavior args p f g =
    ranked_by 8 (regular-New at behavior args p) (depth-New at behavior args p)
    (both_true (all_regular (map shape_of args)) (regular.or_true (option_map at_is_regular p)) (exprs_regular _ args f) (place_regular _ p g)) (more (most (exprs_depth args f) (place_depth p g)))

pub new_args : {n : ℕ} (at : ℕ) (behavior : Ident) (args : List Expr) (p : Option At) → Ranked 8 (suc n) (e.New at behavior args p) → Each (Ranked 0 n) args
new_args at behavior args p f =
    exprs_parts args (left_true (all_regular (map shape_of args)) (regular.or_true (option_map at_is_regular p)) (stands_by 8 (regular-New at behavior args p) f))
    (first_most (greatest (map depth_expr args)) (or_zero (option_map depth_at p)) (less (depth_by 8 (depth-New at behavior args p) f)))

pub new_place : {n : ℕ} (at : ℕ) (behavior : Ident) (args : List Expr) (p : Option At) → Ranked 8 (suc n) (e.New at behavior args p) → IfThere (AtFine n) p
new_place at behavior args p f =
    place_parts p (right_true (all_regular (map shape_of args)) (regular.or_true (option_map at_is_regular p)) (stands_by 8 (regular-New at behavior args p) f))
    (second_most (greatest (map depth_expr args)) (or_zero (option_map depth_at p)) (less (depth_by 8 (depth-New at behavior args p) f)))

pub make_fine : {n : ℕ} (at : ℕ) (sort : TypeName) (x : Expr) → 1 ≤ sort.dims → Ranked 0 n x → Ranked 7 (suc n) (e.Make at sort x)
make_fine at sort x l f =
    ranked_by 7 (regular-Make at sort x) (depth-Make at sort x) (both_true (nat_le 1 sort.dims) (expr_is_regular x) (le-leb 1 sort.dims l) (regular_by 0 f)) (more f.fits)

pub make_dims : {d : ℕ} (at : ℕ) (sort : TypeName) (x : Expr) → Ranked 7 d (e.Make at sort x) → 1 ≤ sort.dims
make_dims at sort x f = leb-true 1 sort.dims (left_true (nat_le 1 sort.dims) (expr_is_regular x) (stands_by 7 (regular-Make at sort x) f))

pub make_parts : {n : ℕ} (at : ℕ) (sort : TypeName) (x : Expr) → Ranked 7 (suc n) (e.Make at sort x) → Ranked 0 n x
make_parts at sort x f = any_rank x (right_true (nat_le 1 sort.dims) (expr_is_regular x) (stands_by 7 (regular-Make at sort x) f)) (less (depth_by 7 (depth-Make at sort x) f))

pub list_fine : {n : ℕ} (at : ℕ) (sort : TypeName) (items : List Expr) → 1 ≤ sort.dims → Each (Ranked 0 n) items → Ranked 7 (suc n) (e.ListOf at sort items)
list_fine at sort items l f =
    ranked_by 7 (regular-ListOf at sort items) (depth-ListOf at sort items) (both_true (nat_le 1 sort.dims) (all_regular (map shape_of items)) (le-leb 1 sort.dims l) (exprs_regular _ items f)) (more (exprs_depth items f))

pub list_dims : {d : ℕ} (at : ℕ) (sort : TypeName) (items : List Expr) → Ranked 7 d (e.ListOf at sort items) → 1 ≤ sort.dims
list_dims at sort items f = leb-true 1 sort.dims (left_true (nat_le 1 sort.dims) (all_regular (map shape_of items)) (stands_by 7 (regular-ListOf at sort items) f))

pub list_parts : {n : ℕ} (at : ℕ) (sort : TypeName) (items : List Expr) → Ranked 7 (suc n) (e.ListOf at sort items) → Each (Ranked 0 n) items
list_parts at sort items f =
    exprs_parts items (right_true (nat_le 1 sort.dims) (all_regular (map shape_of items)) (stands_by 7 (regular-ListOf at sort items) f)) (less (depth_by 7 (depth-ListOf at sort items) f))

-- ---- at depth 0 nothing that counts

pub paren_deep : (at : ℕ) (x : Expr) → Ranked 8 0 (e.Paren at x) → ⊥
paren_deep at x f = not_less (depth_by 8 (depth-Paren at x) f)

pub not_deep : (at : ℕ) (x : Expr) → Ranked 6 0 (e.Not at x) → ⊥
not_deep at x f = not_less (depth_by 6 (depth-Not at x) f)

pub neg_deep : (at : ℕ) (x : Expr) → Ranked 6 0 (e.Neg at x) → ⊥
neg_deep at x f = not_less (depth_by 6 (depth-Neg at x) f)

pub getter_deep : (at : ℕ) (cast : Option Ident) (behavior : Ident) (x : Expr) → Ranked 8 0 (e.ByName at cast behavior x) → ⊥
getter_deep at cast behavior x f = not_less (depth_by 8 (depth-ByName at cast behavior x) f)

pub new_deep : (at : ℕ) (behavior : Ident) (args : List Expr) (p : Option At) → Ranked 8 0 (e.New at behavior args p) → ⊥
new_deep at behavior args p f = not_less (depth_by 8 (depth-New at behavior args p) f)

pub make_deep : (at : ℕ) (sort : TypeName) (x : Expr) → Ranked 7 0 (e.Make at sort x) → ⊥
make_deep at sort x f = not_less (depth_by 7 (depth-Make at sort x) f)

pub list_deep : (at : ℕ) (sort : TypeName) (items : List Expr) → Ranked 7 0 (e.ListOf at sort items) → ⊥
list_deep at sort items f = not_less (depth_by 7 (depth-ListOf at sort items) f)
