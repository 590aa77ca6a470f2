-- Document 01, "Leximin": an allotment's list, the order of lists, the leximin allotment for a total, and the start.
use Rattle.std.specs.Prelude.{◌∷◌, ◌++◌, ◌+◌, ◌-◌, Bool, true, false, cond, List, [], map, ℕ, zero, suc, ltb, length}
use Rattle.apportionment.specs.{Lists.sum, Quantities.Fraction, Quantities.less, Quantities.distance, Quantities.size_of}

unfoldable pub sizes_of : (P H : ℕ) → List ℕ → List ℕ → List Fraction  -- Each state's size of departure from P / H; P is the sum of ps.
sizes_of P H [] seats = []
sizes_of P H (p ∷ ps) [] = []
sizes_of P H (p ∷ ps) (a ∷ seats) = size_of p a P H ∷ sizes_of P H ps seats

unfoldable pub insert : Fraction → List Fraction → List Fraction  -- A size put into its place in a list that is largest first.
insert s [] = s ∷ []
insert s (t ∷ ts) = cond (less s t) (t ∷ insert s ts) (s ∷ t ∷ ts)

unfoldable pub largest_first : List Fraction → List Fraction
largest_first [] = []
largest_first (s ∷ ss) = insert s (largest_first ss)

unfoldable pub list_less : List Fraction → List Fraction → Bool  -- At the first place where two lists differ, the one has the smaller size.
list_less [] ts = false
list_less (s ∷ ss) [] = false
list_less (s ∷ ss) (t ∷ ts) = cond (less s t) true (cond (less t s) false (list_less ss ts))

unfoldable pub more_at_first : List ℕ → List ℕ → Bool  -- More seats at the first state, in register order, where two allotments differ.
more_at_first [] bs = false
more_at_first (a ∷ as') [] = false
more_at_first (a ∷ as') (b ∷ bs) = cond (ltb b a) true (cond (ltb a b) false (more_at_first as' bs))

unfoldable pub size_list : (ps : List ℕ) (H : ℕ) → List ℕ → List Fraction  -- The list of an allotment: its sizes, largest first.
size_list ps H seats = largest_first (sizes_of (sum ps) H ps seats)

unfoldable pub chosen_before : (ps : List ℕ) (H : ℕ) → List ℕ → List ℕ → Bool  -- The lesser list, or equal ones and more seats first.
chosen_before ps H xs ys =
    cond (list_less (size_list ps H xs) (size_list ps H ys)) true
    (cond (list_less (size_list ps H ys) (size_list ps H xs)) false (more_at_first xs ys))

unfoldable pub with_first : (rest : ℕ → List (List ℕ)) (most : ℕ) → List (List ℕ)  -- With `most` down to 1 seats for the first, `rest`.
with_first rest zero = []
with_first rest (suc a) = map (λ (seats : List ℕ). suc a ∷ seats) (rest (suc a)) ++ with_first rest a

unfoldable pub allotments : (n total : ℕ) → List (List ℕ)  -- Every way to give a total to n states, one seat each at least.
allotments zero zero = [] ∷ []
allotments zero (suc t) = []
allotments (suc n) total = with_first (λ (first : ℕ). allotments n (total - first)) total

unfoldable pub first_of : (List ℕ → List ℕ → Bool) → List ℕ → List (List ℕ) → List ℕ  -- The first under an order; the earliest of equals.
first_of before best [] = best
first_of before best (x ∷ xs) = first_of before (cond (before x best) x best) xs

unfoldable pub first_of_all : (List ℕ → List ℕ → Bool) → List (List ℕ) → List ℕ
first_of_all before [] = []
first_of_all before (x ∷ xs) = first_of before x xs

unfoldable pub leximin_for : (ps : List ℕ) (H total : ℕ) → List ℕ  -- Of all with this total, the one chosen first; no seats if none has it.
leximin_for ps H total = first_of_all (chosen_before ps H) (allotments (length ps) total)

-- Of 1 to k seats (1 at least), those with the least size; of equally near ones, the fewer.
unfoldable pub nearest_up_to : (p P H k : ℕ) → ℕ
nearest_up_to p P H zero = 1
nearest_up_to p P H (suc k) =
    let best = nearest_up_to p P H k in
    cond (less (size_of p (suc k) P H) (size_of p best P H)) (suc k) best

unfoldable pub nearest : (p P H : ℕ) → ℕ  -- A state's own nearest seats. A population is at most P, so no more than H seats are nearest.
nearest p P H = nearest_up_to p P H H

unfoldable pub start_seats : (ps : List ℕ) (H : ℕ) → List ℕ  -- The start: each state's nearest seats.
start_seats ps H = map (λ (p : ℕ). nearest p (sum ps) H) ps

unfoldable pub start_total : (ps : List ℕ) (H : ℕ) → ℕ  -- L, the starting total.
start_total ps H = sum (start_seats ps H)

unfoldable pub gap : (ps : List ℕ) (H : ℕ) → ℕ  -- The gap between L and H: the steps from the start to the house.
gap ps H = distance (start_total ps H) H

unfoldable pub total_after : (ps : List ℕ) (H m : ℕ) → ℕ  -- The total after m steps, which add seats while L is below H, or withdraw them.
total_after ps H m = cond (ltb (start_total ps H) H) (start_total ps H + m) (start_total ps H - m)
