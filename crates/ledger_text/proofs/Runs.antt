-- One more selected line of a link: it goes on the last run, or begins one.
use Rattle.std.proofs.Common.{◌≡◌, ◌∙◌, ◌≢◌, ◌⊎◌, ℕ, ◌+◌, ◌-◌, ◌*◌, ◌<◌, ◌≤◌, List, [], ◌∷◌, ◌++◌, length, get_or, set, refl, sym, ap, inl, inr, arith, get_or-set_same, get_or-set_other}
use Rattle.std.proofs.Math.ListN.{length-set}
use Rattle.std.proofs.lemmas.List.{get_or_append_left, get_or_default, get_or_push, length_push, set-get_or}
use Rattle.std.proofs.lemmas.Bool.Decides.{leb_tells}
use Rattle.ledger_text.specs.Runs.{AllBefore, AreApart, HasAdded, IsWithin, first_at, last_at, no_run}
use Rattle.ledger_text.specs.declared.link_runs.Run.{Run}

-- ---- by where runs begin and end

-- the view of lists of runs
record Extends (len k o : ℕ) (f l g m : ℕ → ℕ) : Type 0 where
  last : len ≡ k + 1
  first_same : (i : ℕ) → g i ≡ f i
  last_is : m k ≡ o
  last_same : (i : ℕ) → i < k → m i ≡ l i

same_or_less : (i k : ℕ) → i < k + 1 → (i ≡ k) ⊎ (i < k)
same_or_less i k h = elim (leb_tells k i) [ inl a ↦ inl (omega (arith, h, a.1)) | inr a ↦ inr (omega (arith, a.1)) ]

ends_at : (len k o : ℕ) (f l g m : ℕ → ℕ) → Extends len k o f l g m → (i : ℕ) → i < len → ((i ≡ k) × (m i ≡ o)) ⊎ ((i < k) × (m i ≡ l i))
ends_at len k o f l g m e i h = elim (same_or_less i k (omega (arith, e.last, h))) [
  | inl a ↦ inl (a, ap m a ∙ e.last_is)
  | inr a ↦ inr (a, e.last_same i a)
]

extended_order : (len k o : ℕ) (f l g m : ℕ → ℕ) → Extends len k o f l g m → ((i : ℕ) → i < len → f i ≤ l i) → ((i : ℕ) → i < len → l i < o)
    → (i : ℕ) → i < len → g i ≤ m i
extended_order len k o f l g m e order before i h = elim (ends_at len k o f l g m e i h) [
  | inl a ↦ omega (arith, a.1, e.first_same i, order i h, before i h)
  | inr a ↦ omega (arith, a.1, e.first_same i, order i h)
]

extended_apart : (len k o : ℕ) (f l g m : ℕ → ℕ) → Extends len k o f l g m → ((i j : ℕ) → i < j → j < len → l i < f j) → (i j : ℕ) → i < j → j < len → m i < g j
extended_apart len k o f l g m e apart i j lt h =
    let below : i < k = omega (arith, e.last, lt, h) in
    omega (arith, e.last_same i below, e.first_same j, apart i j lt h)

extended_before : (len k o : ℕ) (f l g m : ℕ → ℕ) → Extends len k o f l g m → ((i : ℕ) → i < len → l i < o) → (i : ℕ) → i < len → m i < o + 1
extended_before len k o f l g m e before i h = elim (ends_at len k o f l g m e i h) [
  | inl a ↦ omega (arith, a.1)
  | inr a ↦ omega (arith, a.1, before i h)
]

abbrev Near : ℕ → ℕ → (ℕ → ℕ) → (ℕ → ℕ) → ℕ → Type 0
Near around len f l n = (i : ℕ) × (i < len) × (f i ≤ n + around) × (n ≤ l i + around)

extended_near : (around len k o : ℕ) (f l g m : ℕ → ℕ) → Extends len k o f l g m → ((i : ℕ) → i < len → f i ≤ l i) → ((i : ℕ) → i < len → l i < o)
    → o - l k ≤ 2 * around + 1 → (n : ℕ) → Near around len g m n → Near around len f l n ⊎ IsWithin around o n
extended_near around len k o f l g m e order before close n c = elim (ends_at len k o f l g m e c.0 c.1) [
  | inl a ↦
      let first : f c.0 ≤ n + around = omega (arith, e.first_same c.0, c.2) in
      let last : l c.0 ≡ l k = ap l a.0 in
      elim (leb_tells n (l c.0 + around)) [
        | inl b ↦ inl (c.0, c.1, first, b.1)
        | inr b ↦ inr (omega (arith, c.3, a.1), omega (arith, b.1, last, close))
      ]
  | inr a ↦ inl (c.0, c.1, omega (arith, e.first_same c.0, c.2), omega (arith, a.1, c.3))
]

extended_far : (around len k o : ℕ) (f l g m : ℕ → ℕ) → Extends len k o f l g m → ((i : ℕ) → i < len → f i ≤ l i) → ((i : ℕ) → i < len → l i < o)
    → (n : ℕ) → Near around len f l n ⊎ IsWithin around o n → Near around len g m n
extended_far around len k o f l g m e order before n (inl c) = elim (ends_at len k o f l g m e c.0 c.1) [
  | inl a ↦ (c.0, c.1, omega (arith, e.first_same c.0, c.2), omega (arith, a.1, c.3, before c.0 c.1))
  | inr a ↦ (c.0, c.1, omega (arith, e.first_same c.0, c.2), omega (arith, a.1, c.3))
]
extended_far around len k o f l g m e order before n (inr w) =
    let at : k < len = omega (arith, e.last) in
    (k, at, omega (arith, e.first_same k, order k at, before k at, w.1), omega (arith, e.last_is, w.0))

-- ---- the last run goes on

-- all that was lent and not written
pub kept : (runs : List Run) (i : ℕ) (run : Run) → run ≡ get_or runs i run → set runs i run ≡ runs
kept runs i run e = ap (λ (r : Run). set runs i r) e ∙ set-get_or runs i run

pub gone_on : (around : ℕ) (runs : List Run) (o len last : ℕ) (run : Run) → 0 < len → length runs ≡ len → last ≡ len - 1 → run ≡ get_or runs last run
    → o - run.last ≤ 2 * around + 1 → AreApart runs → AllBefore runs o
    → HasAdded around runs o (set runs last (record { first = run.first; last = o }))
gone_on around runs o len last run some count is at close apart before =
    let now : Run = record { first = run.first; last = o } in
    let new = set runs last now in
    let within : last < length runs = omega (arith, some, count, is) in
    let size : length new ≡ length runs = length-set runs last now in
    let here : run ≡ get_or runs last no_run = at ∙ get_or_default runs last run no_run within in
    let set_here : get_or new last no_run ≡ now = get_or-set_same runs last now no_run within in
    let other : (i : ℕ) → i ≢ last → get_or new i no_run ≡ get_or runs i no_run = λ (i : ℕ) ne. get_or-set_other runs last i now no_run ne in
    let e : Extends (length runs) last o (first_at runs) (last_at runs) (first_at new) (last_at new) = record {
      last = omega (arith, some, count, is);
      first_same = λ i. elim (leb_tells last i) [
        | inl a ↦ elim (leb_tells i last) [
          | inl b ↦
              let same : i ≡ last = omega (arith, a.1, b.1) in
              ap (first_at new) same ∙ ap (λ (r : Run). r.first) (set_here) ∙ ap (λ (r : Run). r.first) here ∙ sym (ap (first_at runs) same)
          | inr b ↦ ap (λ (r : Run). r.first) (other i (λ h. absurd (omega (arith, h, b.1))))
        ]
        | inr a ↦ ap (λ (r : Run). r.first) (other i (λ h. absurd (omega (arith, h, a.1))))
      ];
      last_is = ap (λ (r : Run). r.last) set_here;
      last_same = λ i h. ap (λ (r : Run). r.last) (other i (λ same. absurd (omega (arith, same, h))));
    } in
    let gap : o - last_at runs last ≤ 2 * around + 1 = omega (arith, close, ap (λ (r : Run). r.last) here) in
    record {
      apart = record {
        order = λ i h. extended_order (length runs) last o (first_at runs) (last_at runs) (first_at new) (last_at new) e apart.order before i (omega (arith, size, h));
        apart = λ i j lt h. extended_apart (length runs) last o (first_at runs) (last_at runs) (first_at new) (last_at new) e apart.apart i j lt (omega (arith, size, h));
      };
      before = λ i h. extended_before (length runs) last o (first_at runs) (last_at runs) (first_at new) (last_at new) e before i (omega (arith, size, h));
      covers = λ n. (
        λ c. extended_near around (length runs) last o (first_at runs) (last_at runs) (first_at new) (last_at new) e apart.order before gap n (c.0, omega (arith, size, c.1), c.2, c.3),
        λ s.
            let c = extended_far around (length runs) last o (first_at runs) (last_at runs) (first_at new) (last_at new) e apart.order before n s in
            (c.0, omega (arith, size, c.1), c.2, c.3),
      );
    }

-- ---- a run begins

begun_at : (runs : List Run) (run : Run) (i : ℕ) → i < length (runs ++ run ∷ [])
    → ((i ≡ length runs) × (get_or (runs ++ run ∷ []) i no_run ≡ run)) ⊎ ((i < length runs) × (get_or (runs ++ run ∷ []) i no_run ≡ get_or runs i no_run))
begun_at runs run i h = elim (same_or_less i (length runs) (omega (arith, h, length_push runs run))) [
  | inl a ↦ inl (a, get_or_push runs run no_run i (sym a))
  | inr a ↦ inr (a, get_or_append_left runs (run ∷ []) no_run i a)
]

pub begun : (around : ℕ) (runs : List Run) (o : ℕ) → AreApart runs → AllBefore runs o → HasAdded around runs o (runs ++ (record { first = o; last = o }) ∷ [])
begun around runs o apart before =
    let run : Run = record { first = o; last = o } in
    let new = runs ++ run ∷ [] in
    let len : length new ≡ length runs + 1 = length_push runs run in
    record {
      apart = record {
        order = λ i h. elim (begun_at runs run i h) [
          | inl a ↦ omega (arith, ap (λ (r : Run). r.first) a.1, ap (λ (r : Run). r.last) a.1)
          | inr a ↦ omega (arith, ap (λ (r : Run). r.first) a.1, ap (λ (r : Run). r.last) a.1, apart.order i a.0)
        ];
        apart = λ i j lt h.
            (let under : i < length runs = omega (arith, len, lt, h) in
            let low = ap (λ (r : Run). r.last) (get_or_append_left runs (run ∷ []) no_run i under) in
            elim (begun_at runs run j h) [
              | inl a ↦ omega (arith, low, ap (λ (r : Run). r.first) a.1, before i under)
              | inr a ↦ omega (arith, low, ap (λ (r : Run). r.first) a.1, apart.apart i j lt a.0)
            ]);
      };
      before = λ i h. elim (begun_at runs run i h) [
        | inl a ↦ omega (arith, ap (λ (r : Run). r.last) a.1)
        | inr a ↦ omega (arith, ap (λ (r : Run). r.last) a.1, before i a.0)
      ];
      covers = λ n. (
        λ c. elim (begun_at runs run c.0 c.1) [
          | inl a ↦ inr (omega (arith, ap (λ (r : Run). r.last) a.1, c.3), omega (arith, ap (λ (r : Run). r.first) a.1, c.2))
          | inr a ↦ inl (c.0, a.0, omega (arith, ap (λ (r : Run). r.first) a.1, c.2), omega (arith, ap (λ (r : Run). r.last) a.1, c.3))
        ],
        λ s. elim s [
          | inl c ↦
              let same = get_or_append_left runs (run ∷ []) no_run c.0 c.1 in
              (c.0, omega (arith, len, c.1), omega (arith, ap (λ (r : Run). r.first) same, c.2), omega (arith, ap (λ (r : Run). r.last) same, c.3))
          | inr w ↦
              let same = get_or_push runs run no_run (length runs) refl in
              (length runs, omega (arith, len), omega (arith, ap (λ (r : Run). r.first) same, w.1), omega (arith, ap (λ (r : Run). r.last) same, w.0))
        ],
      );
    }
