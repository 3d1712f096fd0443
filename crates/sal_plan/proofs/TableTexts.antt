-- Lists of texts in a table, read item by item.
use Rattle.std.proofs.Common.{◌≡◌, ℕ, ◌+◌, ◌<◌, ◌≤◌, append-nil, Bool, true, false, ◌||◌, not, Option, Some, None, List, [], ◌∷◌, ◌++◌, length, get_or, drop, sym, ap, ◌∙◌, String, Global, string_bytes}
use Rattle.std.proofs.lemmas.List.{drop_all}
use Rattle.toml.specs.declared.value.Value.{Value}
use Rattle.toml.specs.Data.{as_str}
use Rattle.toml.specs.View.{view, items_view, members_view}
use Rattle.toml.proofs.Views.{items_view-drop, view-String, view-Integer, view-Float, view-Boolean, view-Datetime, view-Array, view-Table}
use Rattle.sal_plan.specs.Rules.{cons_some, texts_of_items, is_plan_key, has_other_key}
use Rattle.sal_plan.proofs.Each.{after, one_more}

pub ruleset views = (view-String, view-Integer, view-Float, view-Boolean, view-Datetime, view-Array, view-Table)

next : (vs : List Value) (i : ℕ) (d : Value) → i < length vs → texts_of_items (items_view (drop i vs)) ≡ cons_some (as_str (view (get_or vs i d))) (texts_of_items (items_view (drop (i + 1) vs)))
next vs i d lt = ap texts_of_items (items_view-drop vs i d lt)

pub texts_on : (vs : List Value) (i : ℕ) (d : Value) (text : List ℕ) (texts : List (List ℕ)) (whole : Option (List (List ℕ))) → i < length vs → Some text ≡ as_str (view (get_or vs i d))
    → after texts (texts_of_items (items_view (drop i vs))) ≡ whole → after (texts ++ text ∷ []) (texts_of_items (items_view (drop (i + 1) vs))) ≡ whole
texts_on vs i d text texts whole lt here h =
    let rest : Option (List (List ℕ)) = texts_of_items (items_view (drop (i + 1) vs)) in
    sym (one_more texts text rest) ∙ ap (λ o. after texts (cons_some o rest)) here ∙ sym (ap (after texts) (next vs i d lt)) ∙ h

pub no_text_at : (vs : List Value) (i : ℕ) (d : Value) (texts : List (List ℕ)) (whole : Option (List (List ℕ))) → i < length vs → None ≡ as_str (view (get_or vs i d))
    → after texts (texts_of_items (items_view (drop i vs))) ≡ whole → None ≡ whole
no_text_at vs i d texts whole lt here h =
    let rest : Option (List (List ℕ)) = texts_of_items (items_view (drop (i + 1) vs)) in
    ap (λ o. after texts (cons_some o rest)) here ∙ sym (ap (after texts) (next vs i d lt)) ∙ h

pub texts_end : (vs : List Value) (i : ℕ) (texts : List (List ℕ)) (whole : Option (List (List ℕ))) → length vs ≤ i
    → after texts (texts_of_items (items_view (drop i vs))) ≡ whole → Some texts ≡ whole
texts_end vs i texts whole le h =
    let over : drop i vs ≡ [] = drop_all i vs le in
    ap Some (sym (append-nil texts)) ∙ sym (ap (λ ws. after texts (texts_of_items (items_view ws))) over) ∙ h

key_at : (t : Bool) (rest whole : Bool) → (not t || rest) ≡ whole → t ≡ true → rest ≡ whole
key_at true rest whole h e = h
key_at false rest whole h e = absurd cc

other_at : (t : Bool) (rest whole : Bool) → (not t || rest) ≡ whole → t ≡ false → true ≡ whole
other_at true rest whole h e = absurd cc
other_at false rest whole h e = h

pub key_on : (es left : List (String Global × Value)) (e : String Global × Value) (whole : Bool) → es ≡ e ∷ left → is_plan_key (string_bytes e.0) ≡ true
    → has_other_key (members_view es) ≡ whole → has_other_key (members_view left) ≡ whole
key_on es left e whole cut known h =
    key_at (is_plan_key (string_bytes e.0)) (has_other_key (members_view left)) whole (sym (ap (λ zs. has_other_key (members_view zs)) cut) ∙ h) known

pub other_here : (es left : List (String Global × Value)) (e : String Global × Value) (whole : Bool) → es ≡ e ∷ left → is_plan_key (string_bytes e.0) ≡ false
    → has_other_key (members_view es) ≡ whole → true ≡ whole
other_here es left e whole cut other h =
    other_at (is_plan_key (string_bytes e.0)) (has_other_key (members_view left)) whole (sym (ap (λ zs. has_other_key (members_view zs)) cut) ∙ h) other

pub keys_end : (es : List (String Global × Value)) (whole : Bool) → es ≡ [] → has_other_key (members_view es) ≡ whole → false ≡ whole
keys_end es whole over h = sym (ap (λ zs. has_other_key (members_view zs)) over) ∙ h
