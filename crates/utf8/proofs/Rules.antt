-- The bytes that the code takes are those of the grammar, and no others.
use Rattle.std.proofs.Common.{◌≡◌, ℕ, zero, suc, ◌≤◌, Bool, true, cond, leb, List, [], ◌∷◌, ◌++◌, Some, None, Decides, Option, sym, refl, ap, ◌∙◌, inl, inr, ⊎_elim, arith}
use Rattle.std.proofs.lemmas.Bool.{leb-true, and_parts, cases_Bool, cases_lt, false≢true}
use Rattle.std.proofs.lemmas.Bool.Decides.{nat_tests}
use Rattle.utf8.specs.declared.Pending.{Pending}
use Rattle.utf8.specs.Grammar.{Row, Within, Matches, Utf8Char, Utf8Chars, joined, Utf8Octets}
use Rattle.utf8.specs.Machine.{pending, between, lead, after, accepts}

-- what is left of a row
abbrev rest_of : ℕ → ℕ → ℕ → Row
rest_of zero low high = []
rest_of (suc n) low high = (low, high) ∷ rest_of n 128 191

abbrev runs : ℕ → ℕ → ℕ → List ℕ → Bool
runs n low high bs = accepts (Some (pending n low high)) bs

abbrev start : List ℕ → Bool
start bs = runs 0 128 191 bs

-- one byte on within a character
stepped : (n low high b : ℕ) → after (pending (suc n) low high) b ≡ cond (between low high b) (Some (pending n 128 191)) None
stepped n low high b = grind (arith, nat_tests)

-- between two characters the range does not matter
fresh : (low high : ℕ) (bs : List ℕ) → runs 0 low high bs ≡ start bs
fresh low high [] = refl
fresh low high (b ∷ bs) = refl

-- from the grammar to the code
in_range : (low high b : ℕ) → Within low high b → between low high b ≡ true
in_range low high b w = grind (arith, nat_tests)

run : (n low high : ℕ) (u v : List ℕ) → Matches (rest_of n low high) u → runs n low high (u ++ v) ≡ start v
run zero low high [] v m = fresh low high v
run zero low high (b ∷ u) v m = absurd m
run (suc n) low high [] v m = absurd m
run (suc n) low high (b ∷ u) v m = grind (arith, stepped n low high b, in_range low high b m.0, run n 128 191 u v m.1)

-- what a first byte leads to
abbrev Leads : ℕ → ℕ → Option Pending → Type 0
Leads lo hi o = (b : ℕ) → Within lo hi b → lead b ≡ o

lead_1 : Leads 0 127 (Some (pending 0 128 191))
lead_1 b w = grind (arith, nat_tests)

lead_2 : Leads 194 223 (Some (pending 1 128 191))
lead_2 b w = grind (arith, nat_tests)

lead_e0 : Leads 224 224 (Some (pending 2 160 191))
lead_e0 b w = grind (arith, nat_tests)

lead_e1 : Leads 225 236 (Some (pending 2 128 191))
lead_e1 b w = grind (arith, nat_tests)

lead_ed : Leads 237 237 (Some (pending 2 128 159))
lead_ed b w = grind (arith, nat_tests)

lead_ee : Leads 238 239 (Some (pending 2 128 191))
lead_ee b w = grind (arith, nat_tests)

lead_f0 : Leads 240 240 (Some (pending 3 144 191))
lead_f0 b w = grind (arith, nat_tests)

lead_f1 : Leads 241 243 (Some (pending 3 128 191))
lead_f1 b w = grind (arith, nat_tests)

lead_f4 : Leads 244 244 (Some (pending 3 128 143))
lead_f4 b w = grind (arith, nat_tests)

lead_none : Leads 128 193 None
lead_none b w = grind (arith, nat_tests)

lead_past : (b : ℕ) → 245 ≤ b → lead b ≡ None
lead_past b w = grind (arith, nat_tests)

run_row : (lo hi n low high : ℕ) → Leads lo hi (Some (pending n low high)) → (c v : List ℕ) → Matches ((lo, hi) ∷ rest_of n low high) c → start (c ++ v) ≡ start v
run_row lo hi n low high l [] v m = absurd m
run_row lo hi n low high l (b ∷ u) v m = grind (arith, l b m.0, run n low high u v m.1)

run_char : (c v : List ℕ) → Utf8Char c → start (c ++ v) ≡ start v
run_char c v =
    ⊎_elim (run_row 0 127 0 128 191 lead_1 c v)
    (⊎_elim (run_row 194 223 1 128 191 lead_2 c v)
    (⊎_elim (run_row 224 224 2 160 191 lead_e0 c v)
    (⊎_elim (run_row 225 236 2 128 191 lead_e1 c v)
    (⊎_elim (run_row 237 237 2 128 159 lead_ed c v)
    (⊎_elim (run_row 238 239 2 128 191 lead_ee c v)
    (⊎_elim (run_row 240 240 3 144 191 lead_f0 c v)
    (⊎_elim (run_row 241 243 3 128 191 lead_f1 c v)
    (⊎_elim (run_row 244 244 3 128 143 lead_f4 c v) (λ none. absurd none)))))))))

run_chars : (cs : List (List ℕ)) → Utf8Chars cs → start (joined cs) ≡ true
run_chars [] h = refl
run_chars (c ∷ cs) h = run_char c (joined cs) h.0 ∙ run_chars cs h.1

-- from the code to the grammar: the rest of a character, and whole characters behind it
record Parsed (row : Row) (bs : List ℕ) : Type 0 where
  front : List ℕ
  behind : List ℕ
  matches : Matches row front
  octets : Utf8Octets behind
  whole : front ++ behind ≡ bs

abbrev Goes : List ℕ → Type 0
Goes bs = (n low high : ℕ) → runs n low high bs ≡ true → Parsed (rest_of n low high) bs

took : (n low high b : ℕ) (bs : List ℕ) → Goes bs → accepts (cond (between low high b) (Some (pending n 128 191)) None) bs ≡ true → Parsed ((low, high) ∷ rest_of n 128 191) (b ∷ bs)
took n low high b bs ih e =
    ⊎_elim
    (λ t.
    let parts = and_parts (leb low b) (leb b high) t in
    let p = ih n 128 191 (rw t at e) in
    record { front = b ∷ p.front; behind = p.behind; matches = (record { least = leb-true low b parts.0; most = leb-true b high parts.1 }, p.matches); octets = p.octets; whole = ap (λ xs. b ∷ xs) p.whole })
    (λ f. absurd (false≢true (rw f at e)))
    (cases_Bool (between low high b))

begun : (lo hi n low high : ℕ) → Leads lo hi (Some (pending n low high)) → ((c : List ℕ) → Matches ((lo, hi) ∷ rest_of n low high) c → Utf8Char c) → (b : ℕ) (bs : List ℕ) → lo ≤ b → b ≤ hi → Goes bs → accepts (lead b) bs ≡ true → Parsed [] (b ∷ bs)
begun lo hi n low high l is-char b bs ge le ih e =
    let w : Within lo hi b = record { least = ge; most = le } in
    let p = ih n low high (rw (l b w) at e) in
    record { front = []; behind = b ∷ bs; matches = tt; octets = ((b ∷ p.front) ∷ p.octets.0, (is-char (b ∷ p.front) (w, p.matches), p.octets.1), ap (λ xs. b ∷ (p.front ++ xs)) p.octets.2 ∙ ap (λ xs. b ∷ xs) p.whole); whole = refl }

refused : (o : Option Pending) (bs : List ℕ) → o ≡ None → accepts o bs ≡ true → ⊥
refused o bs p e = grind arith

led : (b : ℕ) (bs : List ℕ) → Goes bs → accepts (lead b) bs ≡ true → Parsed [] (b ∷ bs)
led b bs ih e =
    ⊎_elim (λ h. begun 0 127 0 128 191 lead_1 (λ c m. inl m) b bs (omega arith) (omega arith) ih e)
    (λ g1. ⊎_elim (λ h. absurd (refused (lead b) bs (lead_none b (record { least = omega arith; most = omega arith })) e))
    (λ g2. ⊎_elim (λ h. begun 194 223 1 128 191 lead_2 (λ c m. inr (inl m)) b bs (omega arith) (omega arith) ih e)
    (λ g3. ⊎_elim (λ h. begun 224 224 2 160 191 lead_e0 (λ c m. inr (inr (inl m))) b bs (omega arith) (omega arith) ih e)
    (λ g4. ⊎_elim (λ h. begun 225 236 2 128 191 lead_e1 (λ c m. inr (inr (inr (inl m)))) b bs (omega arith) (omega arith) ih e)
    (λ g5. ⊎_elim (λ h. begun 237 237 2 128 159 lead_ed (λ c m. inr (inr (inr (inr (inl m))))) b bs (omega arith) (omega arith) ih e)
    (λ g6. ⊎_elim (λ h. begun 238 239 2 128 191 lead_ee (λ c m. inr (inr (inr (inr (inr (inl m)))))) b bs (omega arith) (omega arith) ih e)
    (λ g7. ⊎_elim (λ h. begun 240 240 3 144 191 lead_f0 (λ c m. inr (inr (inr (inr (inr (inr (inl m))))))) b bs (omega arith) (omega arith) ih e)
    (λ g8. ⊎_elim (λ h. begun 241 243 3 128 191 lead_f1 (λ c m. inr (inr (inr (inr (inr (inr (inr (inl m)))))))) b bs (omega arith) (omega arith) ih e)
    (λ g9. ⊎_elim (λ h. begun 244 244 3 128 143 lead_f4 (λ c m. inr (inr (inr (inr (inr (inr (inr (inr (inl m))))))))) b bs (omega arith) (omega arith) ih e)
    (λ g10. absurd (refused (lead b) bs (lead_past b (omega arith)) e))
    (cases_lt b 245)) (cases_lt b 244)) (cases_lt b 241)) (cases_lt b 240)) (cases_lt b 238)) (cases_lt b 237)) (cases_lt b 225)) (cases_lt b 224)) (cases_lt b 194)) (cases_lt b 128)

sound : (bs : List ℕ) → Goes bs
sound [] zero low high e = record { front = []; behind = []; matches = tt; octets = ([], tt, refl); whole = refl }
sound [] (suc n) low high e = absurd (grind (arith, nat_tests))
sound (b ∷ bs) zero low high e = led b bs (sound bs) e
sound (b ∷ bs) (suc n) low high e = took n low high b bs (sound bs) (grind (arith, stepped n low high b, e))

emptied : (u v bs : List ℕ) → Matches [] u → u ++ v ≡ bs → v ≡ bs
emptied [] v bs m e = e
emptied (b ∷ u) v bs m e = absurd m

pub decided : (bs : List ℕ) (r : Bool) → r ≡ accepts (Some (pending 0 128 191)) bs → Decides r (Utf8Octets bs)
decided bs r e = (
  λ t. let p = sound bs 0 128 191 (sym e ∙ t) in (p.octets.0, p.octets.1, p.octets.2 ∙ emptied p.front p.behind bs p.matches p.whole),
  λ o. e ∙ sym (ap start o.2) ∙ run_chars o.0 o.1,
)
