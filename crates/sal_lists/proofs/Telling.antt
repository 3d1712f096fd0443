-- Loops over what a turn tells.
use Rattle.std.proofs.Common.{◌≡◌, ℕ, ◌+◌, ◌<◌, ◌≤◌, List, [], ◌∷◌, ◌++◌, map, drop, length, get_or, Some, refl, sym, ap, ◌∙◌}
use Rattle.std.proofs.lemmas.List.{drop_more, drop_all}
use Rattle.sal_value.specs.declared.name.Name.{Name}
use Rattle.sal_value.specs.declared.value.Value.{Value}
use Rattle.sal_value.specs.Table.{Table, write}
use Rattle.sal_mail.specs.declared.message.Join.{Join}
use Rattle.sal_mail.specs.declared.fault.Fault.{Fault}
use Rattle.sal_source.specs.declared.state.Step.{Step}
use Rattle.sal_source.specs.declared.state.Step.TheVariants.{Handle, Print, Bind, Refuse, Post}
use Rattle.sal_source.specs.Keys.{name_key}
use Rattle.sal_source.specs.Give.{settle_all}
use Rattle.sal_pieces.specs.Steps.{answers_of_replies}
use Rattle.sal_routing.specs.declared.told.Told.{Told}
use Rattle.sal_routing.specs.State.{moment}
use Rattle.sal_entries.specs.Entries.{Entries, overlaid}
use Rattle.sal_entries.proofs.Overlays.{changed}
use Rattle.sal_world.specs.World.{Lists}
use Rattle.sal_world.specs.Lists.{faults_of, posted_after, put_places, waiting_at, listed}

-- ---- the number of the last post

pub posted_first : (last : ℕ) (s : Step) (ss : List Step) → posted_after (posted_after last (s ∷ [])) ss ≡ posted_after last (s ∷ ss)
posted_first last (Handle maker serial fresh) ss = refl
posted_first last (Print maker serial) ss = refl
posted_first last (Bind maker serial) ss = refl
posted_first last (Refuse maker serial) ss = refl
posted_first last (Post number to behavior handler args) ss = refl

pub posted_step : (log : List Step) (i : ℕ) (s : Step) (p q v : ℕ) → i < length log → s ≡ get_or log i s → q ≡ posted_after p (s ∷ []) → posted_after p (drop i log) ≡ v → posted_after q (drop (i + 1) log) ≡ v
posted_step log i s p q v lt is new before =
    ap (λ x. posted_after x (drop (i + 1) log)) new ∙ posted_first p s (drop (i + 1) log)
    ∙ ap (posted_after p) (sym (drop_more log i s lt ∙ ap (λ x. x ∷ drop (i + 1) log) (sym is))) ∙ before

pub posted_end : (log : List Step) (i p v : ℕ) → length log ≤ i → posted_after p (drop i log) ≡ v → p ≡ v
posted_end log i p v le before = ap (posted_after p) (sym (drop_all i log le)) ∙ before

-- ---- places

module _ (stands : List (Name × ℕ)) (b : Table ℕ) where
  pub places_step : (i : ℕ) (x : Name × ℕ) (n : Name) (t u : Entries ℕ) (v : Table ℕ) → i < length stands → x ≡ get_or stands i x → n ≡ x.0 → u ≡ write t (name_key n) (Some (Some x.1)) → put_places (drop i stands) (overlaid t b) ≡ v → put_places (drop (i + 1) stands) (overlaid u b) ≡ v
  places_step i x n t u v lt is same new before =
      ap (put_places (drop (i + 1) stands)) (changed t b (name_key n) (Some x.1) u new ∙ ap (λ m. write (overlaid t b) (name_key m) (Some x.1)) same)
      ∙ ap (λ xs. put_places xs (overlaid t b)) (sym (drop_more stands i x lt ∙ ap (λ y. y ∷ drop (i + 1) stands) (sym is))) ∙ before

  pub places_end : (i : ℕ) (t : Entries ℕ) (v : Table ℕ) → length stands ≤ i → put_places (drop i stands) (overlaid t b) ≡ v → overlaid t b ≡ v
  places_end i t v le before = ap (λ xs. put_places xs (overlaid t b)) (sym (drop_all i stands le)) ∙ before

pub places_both : (xs ys : List (Name × ℕ)) (b : Table ℕ) → put_places ys (put_places xs b) ≡ put_places (xs ++ ys) b
places_both [] ys b = refl
places_both (x ∷ xs) ys b = places_both xs ys (write b (name_key x.0) (Some x.1))

-- ---- all lists

pub listed_is :
    (node : ℕ) (told : Told) (l : Lists) (trace : List Step) (output : List (ℕ × List ℕ)) (faults : List Fault) (answers : List (ℕ × Value)) (posted : ℕ) (places : Table ℕ) (moves : ℕ) (joins : Table (Name × Join))
    → trace ≡ l.trace ++ told.log
    → output ≡ l.output ++ map (λ text. (node, text)) told.printed
    → faults ≡ l.faults ++ faults_of told
    → answers ≡ l.answers ++ answers_of_replies l.open_joins told.opened told.given
    → posted ≡ posted_after l.posted told.log
    → places ≡ put_places (told.made ++ told.moved) l.places
    → moves ≡ moment (l.moves + length told.moved)
    → joins ≡ (settle_all told.given (waiting_at told l)).joins
    → record { trace = trace; output = output; faults = faults; answers = answers; posted = posted; places = places; moves = moves; open_joins = joins } ≡ listed node told l
unfolding listed
listed_is node told l trace output faults answers posted places moves joins a b c d e f g h =
    λ i. record { trace = a i; output = b i; faults = c i; answers = d i; posted = e i; places = f i; moves = g i; open_joins = h i }
