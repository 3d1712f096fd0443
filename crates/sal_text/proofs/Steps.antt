-- The cut of a text grows by a part at a time.
use Rattle.std.proofs.Common.{◌≡◌, ℕ, suc, ◌+◌, ◌-◌, ◌≤◌, Bool, true, false, cond, nat_eq, List, [], ◌∷◌, ◌++◌, length, take, drop, Some, None, refl, ap, sym, ◌∙◌, subst, length-drop, length-take, length-append, append-nil, add_assoc, arith}
use Rattle.std.specs.Str.{IsUtf8}
use Rattle.std.proofs.lemmas.List.{take-append-drop, drop-drop, drop_all}
use Rattle.sal_ast.specs.declared.lexeme.Kind.{Kind}
use Rattle.sal_text.specs.declared.token.LexRule.{LexRule}
use Rattle.sal_text.specs.declared.token.LexRule.TheVariants as rule
use Rattle.sal_text.specs.declared.token.Token.{Token}
use Rattle.sal_text.specs.Values.{bad_escape_from, is_escape}
use Rattle.sal_text.specs.Tokens.{PartKind, Blank, Line, Block, Of, Part, Stands, Cuts, with_token, tokens_from, Covers}
use Rattle.sal_text.specs.Refusals.{Violates, IsCutShort, Refuses}
use Rattle.sal_text.specs.code.Scanned.{IsBetween, IsTokenAtFront}

abbrev total : List Part → ℕ
total [] = 0
total (part ∷ parts) = length part.bytes + total parts

-- the bytes before this place are cut into parts, among which are these tokens
pub record Reached (text : List ℕ) (at : ℕ) (tokens : List Token) : Type 0 where
  pub within : at ≤ length text
  pub parts : List Part
  pub cut : Cuts parts text (drop at text)
  pub long : total parts ≡ at
  pub spans : tokens_from 0 parts ≡ tokens

pub begun : (text : List ℕ) → Reached text 0 []
begun text = record { within = omega arith; parts = []; cut = refl; long = refl; spans = refl }

-- ---- one part more

cut_more : (parts : List Part) (part : Part) (text rest : List ℕ) → Cuts parts text (part.bytes ++ rest) → Stands part.what part.bytes rest →
    Cuts (parts ++ part ∷ []) text rest
cut_more [] part text rest h s = (rest, (h, s, refl))
cut_more (p ∷ ps) part text rest h s = (h.0, (h.1.0, h.1.1, cut_more ps part h.0 rest h.1.2 s))

total_more : (parts : List Part) (part : Part) → total (parts ++ part ∷ []) ≡ total parts + length part.bytes
total_more [] part = omega arith
total_more (p ∷ ps) part = let h = total_more ps part in omega arith

with_more : (what : PartKind) (start end : ℕ) (tokens more : List Token) → with_token what start end (tokens ++ more) ≡ with_token what start end tokens ++ more
with_more Blank start end tokens more = refl
with_more Line start end tokens more = refl
with_more Block start end tokens more = refl
with_more (Of kind) start end tokens more = refl

spans_more : (parts : List Part) (part : Part) (start : ℕ) →
    tokens_from start (parts ++ part ∷ []) ≡ tokens_from start parts ++ with_token part.what (start + total parts) (start + total parts + length part.bytes) []
spans_more [] part start = ap (λ s. with_token part.what s (s + length part.bytes) []) (let e : start ≡ start + 0 = omega arith in e)
spans_more (p ∷ ps) part start =
    let next : ℕ = start + length p.bytes in
    let more : List Token = with_token part.what (start + length p.bytes + total ps) (start + length p.bytes + total ps + length part.bytes) [] in
    ap (with_token p.what start (start + length p.bytes)) (spans_more ps part (start + length p.bytes))
    ∙ (with_more p.what start (start + length p.bytes) (tokens_from (start + length p.bytes) ps) more
    ∙ ap (λ s. with_token p.what start (start + length p.bytes) (tokens_from (start + length p.bytes) ps) ++ with_token part.what s (s + length part.bytes) [])
    (add_assoc start (length p.bytes) (total ps)))

long_take : (n : ℕ) (cs : List ℕ) → n ≤ length cs → length (take n cs) ≡ n
long_take n cs h = omega (arith, length-take n cs)

-- the part of n bytes at this place
abbrev part_of : PartKind → ℕ → ℕ → List ℕ → Part
part_of what n at text = record { what = what; bytes = take n (drop at text) }

reached_more : (text : List ℕ) (at n : ℕ) (tokens : List Token) (what : PartKind) → n ≤ length (drop at text) → Stands what (take n (drop at text)) (drop n (drop at text)) →
    Reached text at tokens → Reached text (at + n) (tokens ++ with_token what at (at + n) [])
reached_more text at n tokens what w s r =
    let part : Part = record { what = what; bytes = take n (drop at text) } in
    let split : Cuts r.parts text (take n (drop at text) ++ drop n (drop at text)) = subst (Cuts r.parts text) (sym (take-append-drop n (drop at text))) r.cut in
    let cut : Cuts (r.parts ++ part_of what n at text ∷ []) text (drop n (drop at text)) = cut_more r.parts (part_of what n at text) text (drop n (drop at text)) split s in
    let long : length (take n (drop at text)) ≡ n = long_take n (drop at text) w in
    record {
      within = let a = r.within in omega (arith, length-drop at text);
      parts = r.parts ++ part_of what n at text ∷ [];
      cut = subst (Cuts (r.parts ++ part_of what n at text ∷ []) text) (drop-drop n at text) cut;
      long = total_more r.parts (part_of what n at text) ∙ (ap (λ k. k + length (take n (drop at text))) r.long ∙ ap (λ k. at + k) long);
      spans =
          spans_more r.parts (part_of what n at text) 0
          ∙ (ap (λ ts. ts ++ with_token what (0 + total r.parts) (0 + total r.parts + length (take n (drop at text))) []) r.spans
          ∙ (ap (λ k. tokens ++ with_token what k (k + length (take n (drop at text))) []) (let e : 0 + total r.parts ≡ at = let l = r.long in omega arith in e)
          ∙ ap (λ k. tokens ++ with_token what at (at + k) []) long));
    }

pub reached_between : (text : List ℕ) (at n : ℕ) (tokens : List Token) → Reached text at tokens → IsBetween n (drop at text) → Reached text (at + n) tokens
reached_between text at n tokens r b =
    subst (Reached text (at + n)) (ap (λ ts. tokens ++ ts) (b.quiet at (at + n) []) ∙ append-nil tokens) (reached_more text at n tokens b.what b.within b.stands r)

pub reached_token : (text : List ℕ) (at n : ℕ) (tokens : List Token) (kind : Kind) → Reached text at tokens → IsTokenAtFront kind n (drop at text) →
    Reached text (at + n) (tokens ++ record { kind = kind; start = at; end = at + n } ∷ [])
reached_token text at n tokens kind r b = reached_more text at n tokens (Of kind) b.within b.stands r

-- ---- the end

pub reached_end : (text : List ℕ) (at : ℕ) (tokens : List Token) → Reached text at tokens → length text ≤ at → IsUtf8 text → Covers text tokens
reached_end text at tokens r h u = record { utf8 = u; parts = r.parts; cut = subst (Cuts r.parts text) (drop_all at text h) r.cut; spans = r.spans }

-- ---- a violation

escape_next : (at k : ℕ) (c : ℕ) (cs : List ℕ) (b : Bool) → (bad_escape_from (suc at) false cs ≡ Some k → k ≤ suc at + length cs) →
    cond b (bad_escape_from (suc at) false cs) (Some (at - 1)) ≡ Some k → k ≤ at + suc (length cs)
escape_next at k c cs true more h = let m = more h in omega arith
escape_next at k c cs false more h = let e : at - 1 ≡ k = cc in omega arith

escape_within : (at : ℕ) (escaped : Bool) (cs : List ℕ) (k : ℕ) → bad_escape_from at escaped cs ≡ Some k → k ≤ at + length cs
unfolding bad_escape_from
escape_within at escaped [] k h = absurd (let f : None ≡ Some k = h in cc)
escape_within at true (c ∷ cs) k h = escape_next at k c cs (is_escape c) (escape_within (suc at) false cs k) h
escape_within at false (c ∷ cs) k h = let m = escape_within (suc at) (nat_eq c 92) cs k h in omega arith

pub violates_within : (rule : LexRule) (text : List ℕ) (place : ℕ) → Violates rule text place → place ≤ length text
violates_within rule.L0 text place v = absurd v
violates_within rule.L1 text place v = let e = v.0 in omega arith
violates_within rule.L2 text place v = let e = v.0 in omega arith
violates_within rule.L3 text place v = let e = v.0 in omega arith
violates_within rule.L4 text place v = let e = v.0 in omega arith
violates_within rule.L5 text place v =
    let e : place ≤ 0 + length v.string = escape_within 0 false v.string place v.bad in
    let l : length text ≡ length v.string + length v.behind = ap length v.spelled ∙ length-append v.string v.behind in
    omega arith

short_at : (rule : LexRule) (text : List ℕ) (at place : ℕ) (tokens : List Token) → Reached text at tokens → Violates rule (drop at text) place → IsUtf8 text → length text ≤ 262144 →
    IsCutShort rule (at + place) text
short_at rule text at place tokens r v u h = record {
  fits = h;
  utf8 = u;
  parts = r.parts;
  rest = drop at text;
  cut = r.cut;
  place = place;
  violates = v;
  there = let w = r.within in omega (arith, length-drop at text);
}

pub reached_refusal : (rule : LexRule) (text : List ℕ) (at place : ℕ) (tokens : List Token) → Reached text at tokens → Violates rule (drop at text) place → IsUtf8 text →
    length text ≤ 262144 → Refuses rule (at + place) text
reached_refusal rule.L0 text at place tokens r v u h = absurd v
reached_refusal rule.L1 text at place tokens r v u h = short_at rule.L1 text at place tokens r v u h
reached_refusal rule.L2 text at place tokens r v u h = short_at rule.L2 text at place tokens r v u h
reached_refusal rule.L3 text at place tokens r v u h = short_at rule.L3 text at place tokens r v u h
reached_refusal rule.L4 text at place tokens r v u h = short_at rule.L4 text at place tokens r v u h
reached_refusal rule.L5 text at place tokens r v u h = short_at rule.L5 text at place tokens r v u h

pub refusal_within : (rule : LexRule) (text : List ℕ) (at place : ℕ) → at ≤ length text → Violates rule (drop at text) place → at + place ≤ length text
refusal_within rule text at place h v = let w = violates_within rule (drop at text) place v in omega (arith, length-drop at text)
