-- What the forms in memory say is more than their traits ask.
use Rattle.std.proofs.Common.{◌≡◌, ◌≢◌, ℕ, if◌then◌else◌, List, [], ◌∷◌, ◌++◌, append-nil, None, Some, Result, Ok, Err, IsErrOf, OnOk, OnErr, is_err, refl, sym, ap, ◌∙◌, arith}
use Rattle.salsa.specs.declared.memory.Entry.{Entry}
use Rattle.salsa.specs.declared.outside.OutsideFault.{OutsideFault}
use Rattle.salsa.specs.declared.outside.OutsideFault.TheVariants.{Failed}
use Rattle.salsa.specs.Memory.{held_of, one_more, is_failed}
use Rattle.salsa.specs.Outside.{Rose, Wrote, OthersKept, Grew, GrewByPrefix}

rose : (before now : ℕ) → now ≡ one_more before → Rose before now
rose before now e = omega arith

pub read_rose : (r : Result (List ℕ) OutsideFault) (before now : ℕ) → now ≡ (if is_failed r then one_more before else before) → IsErrOf r Failed → Rose before now
read_rose r before now e failed = rose before now (e ∙ ap (λ (x : Result (List ℕ) OutsideFault). if is_failed x then one_more before else before) failed)

pub call_rose : {T E : Type 0} (r : Result T E) (before now : ℕ) → now ≡ (if is_err r then one_more before else before) → OnErr r (Rose before now)
call_rose (Ok x) before now e = tt
call_rose (Err x) before now e = rose before now e

pub wrote : {T E : Type 0} (r : Result T E) (name bytes : List ℕ) (old new : List Entry) → OnOk r (new ≡ record { name = name; bytes = bytes } ∷ old) →
    OnOk r (Wrote (Some (held_of old)) name bytes (Some (held_of new)))
wrote (Ok x) name bytes old new e = (held_of new, (refl, λ other. ap (λ (es : List Entry). held_of es other) e))
wrote (Err x) name bytes old new e = tt

pub others_kept : {T E : Type 0} (r : Result T E) (name bytes : List ℕ) (old new : List Entry) → OnOk r (new ≡ record { name = name; bytes = bytes } ∷ old) → OnErr r (new ≡ old) →
    OthersKept (Some (held_of old)) name (Some (held_of new))
others_kept (Ok x) name bytes old new ok err =
    (held_of new, (refl, λ other differs. ap (λ (es : List Entry). held_of es other) ok ∙ ap (λ b. if b then Some bytes else held_of old other) differs))
others_kept (Err x) name bytes old new ok err = (held_of new, (refl, λ other differs. ap (λ (es : List Entry). held_of es other) err))

pub grew : {T E : Type 0} (r : Result T E) (bytes old new : List ℕ) → OnOk r (new ≡ old ++ bytes) → OnOk r (Grew (Some old) (Some new) bytes)
grew (Ok x) bytes old new e = ap (λ (taken : List ℕ). Some taken) e
grew (Err x) bytes old new e = tt

pub took_none : {T E : Type 0} (r : Result T E) (bytes old new : List ℕ) → OnErr r (new ≡ old) → OnErr r (GrewByPrefix (Some old) (Some new) bytes)
took_none (Ok x) bytes old new e = tt
took_none (Err x) bytes old new e = (0, ap (λ (taken : List ℕ). Some taken) (e ∙ sym (append-nil old)))

pub not_empty : {T E : Type 0} (r : Result T E) (x : T) (bytes : List ℕ) → (bytes ≡ [] → r ≡ Ok x) → OnErr r (bytes ≢ [])
not_empty (Ok y) x bytes h = tt
not_empty (Err y) x bytes h = λ empty. absurd (let e : Err y ≡ Ok x = h empty in cc)

-- of a sink that tells nothing
pub untold : {A E : Type 0} (r : Result A E) → (bytes : List ℕ) → OnOk r (Grew None None bytes)
untold (Ok a) bytes = refl
untold (Err e) bytes = tt

pub untold_prefix : {A E : Type 0} (r : Result A E) (bytes : List ℕ) → OnErr r (GrewByPrefix None None bytes)
untold_prefix (Ok a) bytes = tt
untold_prefix (Err e) bytes = (0, refl)
