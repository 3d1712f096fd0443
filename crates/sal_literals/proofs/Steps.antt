-- Reading a text in quotes byte by byte, as a loop does.
use Rattle.std.proofs.Common.{◌≡◌, ℕ, Some, None, List, [], ◌∷◌, ◌++◌, refl, sym, ap, ◌∙◌, append_assoc, append-nil}
use Rattle.sal_literals.specs.declared.quoted.Position.{Position}
use Rattle.sal_literals.specs.declared.quoted.Position.TheVariants.{Plain}
use Rattle.sal_literals.specs.declared.quoted.Scan.{Scan}
use Rattle.sal_literals.specs.declared.quoted.Scan.TheVariants.{Moves, Gives, Ends, Fails}
use Rattle.sal_literals.specs.code.Scanning.{Reading, scan_step, after_text, scan_on, scan_at}

pub nothing_read : (read : Reading (List ℕ)) → after_text [] read ≡ read
nothing_read (Some x) = refl
nothing_read None = refl

twice : (text : List ℕ) (b : ℕ) (read : Reading (List ℕ)) → after_text text (after_text (b ∷ []) read) ≡ after_text (text ++ b ∷ []) read
twice text b (Some x) = ap (λ (z : List ℕ). Some (z, x.1)) (sym (append_assoc text (b ∷ []) x.0))
twice text b None = refl

-- what is read from here on
step : (text : List ℕ) (at : Position) (b : ℕ) (rest bytes : List ℕ) (s : Scan) (all : Reading (List ℕ)) → bytes ≡ b ∷ rest → s ≡ scan_step at b → after_text text (scan_at at bytes) ≡ all
    → after_text text (scan_on (λ to. scan_at to rest) rest s) ≡ all
step text at b rest bytes s all e is so_far =
    ap (λ (z : Scan). after_text text (scan_on (λ to. scan_at to rest) rest z)) is ∙ ap (λ (z : List ℕ). after_text text (scan_at at z)) (sym e) ∙ so_far

pub scan_moves : (text : List ℕ) (at : Position) (b : ℕ) (rest bytes : List ℕ) (to : Position) (all : Reading (List ℕ)) → bytes ≡ b ∷ rest → Moves to ≡ scan_step at b
    → after_text text (scan_at at bytes) ≡ all → after_text text (scan_at to rest) ≡ all
scan_moves text at b rest bytes to all e is so_far = step text at b rest bytes (Moves to) all e is so_far

pub scan_gives : (text : List ℕ) (at : Position) (b : ℕ) (rest bytes : List ℕ) (c : ℕ) (all : Reading (List ℕ)) → bytes ≡ b ∷ rest → Gives c ≡ scan_step at b
    → after_text text (scan_at at bytes) ≡ all → after_text (text ++ c ∷ []) (scan_at Plain rest) ≡ all
scan_gives text at b rest bytes c all e is so_far = sym (twice text c (scan_at Plain rest)) ∙ step text at b rest bytes (Gives c) all e is so_far

pub scan_ends : (text : List ℕ) (at : Position) (b : ℕ) (rest bytes : List ℕ) (all : Reading (List ℕ)) → bytes ≡ b ∷ rest → Ends ≡ scan_step at b
    → after_text text (scan_at at bytes) ≡ all → all ≡ Some (text, rest)
scan_ends text at b rest bytes all e is so_far = sym (step text at b rest bytes Ends all e is so_far) ∙ ap (λ (z : List ℕ). Some (z, rest)) (append-nil text)

pub scan_fails : (text : List ℕ) (at : Position) (b : ℕ) (rest bytes : List ℕ) (all : Reading (List ℕ)) → bytes ≡ b ∷ rest → Fails ≡ scan_step at b
    → after_text text (scan_at at bytes) ≡ all → all ≡ None
scan_fails text at b rest bytes all e is so_far = sym (step text at b rest bytes Fails all e is so_far)

pub scan_nothing : (text : List ℕ) (at : Position) (bytes : List ℕ) (all : Reading (List ℕ)) → bytes ≡ [] → after_text text (scan_at at bytes) ≡ all → all ≡ None
scan_nothing text at bytes all e so_far = sym (ap (λ (z : List ℕ). after_text text (scan_at at z)) (sym e) ∙ so_far)
