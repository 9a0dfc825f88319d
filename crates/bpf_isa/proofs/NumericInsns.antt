-- The loop over the instructions, and what a fault in it says of the whole.
use Rattle.std.proofs.Common.{◌≡◌, ℕ, ◌+◌, ◌<◌, ◌≤◌, Bool, true, false, cond, ltb, eqb, eq-eqb, List, [], ◌∷◌, ◌++◌, length, take, Result, Ok, Err, refl, sym, ap, subst, ◌∙◌, append_assoc, arith}
use Rattle.std.proofs.lemmas.Bool.{lt-ltb, le-ltb, ltb-true, ltb-false, ne_eqb}
use Rattle.std.proofs.lemmas.List.{append-nil, take_all, take-append-le, length-take, length-append}
use Rattle.bpf_isa.specs.declared.packed.Packed.{Packed}
use Rattle.bpf_isa.specs.declared.numeric.fault.NumericFault.{NumericFault}
use Rattle.bpf_isa.specs.declared.numeric.fault.NumericFault.TheVariants.{Character, Number, Form, Count, TooMany, Memory}
use Rattle.bpf_isa.specs.Numeric.{◌>>=◌, Item, packed_of, insns_of, counted_insns, IsFault}

-- the insns read so far, before those that are still to come
abbrev pub with_prefix : List Packed → Result (List Packed) NumericFault → Result (List Packed) NumericFault
with_prefix prefix read = read >>= λ insns. Ok (prefix ++ insns)

pub with_front_none : (read : Result (List Packed) NumericFault) → with_prefix [] read ≡ read
with_front_none (Ok insns) = refl
with_front_none (Err e) = refl

pub is_fault : {Y : Type 0} (e : NumericFault) (read : Result Y NumericFault) → read ≡ Err e → IsFault e read
is_fault Memory read h = tt
is_fault (Character at) read h = h
is_fault (Number at) read h = h
is_fault (Form at) read h = h
is_fault (Count at) read h = h
is_fault (TooMany at) read h = h

regroup : (prefix : List Packed) (insn : Packed) (read : Result (List Packed) NumericFault)
    → with_prefix prefix (read >>= λ insns. Ok (insn ∷ insns)) ≡ with_prefix (prefix ++ insn ∷ []) read
regroup prefix insn (Ok insns) = ap (λ (ws : List Packed). Ok ws) (sym (append_assoc prefix (insn ∷ []) insns))
regroup prefix insn (Err e) = refl

-- an instruction is read
pub one_more : (prefix : List Packed) (items more : List Item) (item : Item) (insn : Packed) → items ≡ item ∷ more → packed_of item.0 item.1 ≡ Ok insn
    → with_prefix prefix (insns_of items) ≡ with_prefix (prefix ++ insn ∷ []) (insns_of more)
unfolding insns_of
one_more prefix items more item insn e h =
    ap (λ (is : List Item). with_prefix prefix (insns_of is)) e ∙ rw h (regroup prefix insn (insns_of more))

-- an instruction has a fault
pub stops_at : (prefix : List Packed) (items more : List Item) (item : Item) (e : NumericFault) → items ≡ item ∷ more → packed_of item.0 item.1 ≡ Err e
    → with_prefix prefix (insns_of items) ≡ Err e
unfolding insns_of
stops_at prefix items more item e cut h = ap (λ (is : List Item). with_prefix prefix (insns_of is)) cut ∙ rw h refl

-- no item is left
pub all_read : (prefix : List Packed) (items : List Item) → items ≡ [] → with_prefix prefix (insns_of items) ≡ Ok prefix
unfolding insns_of
all_read prefix items e = ap (λ (is : List Item). with_prefix prefix (insns_of is)) e ∙ ap (λ (ws : List Packed). Ok ws) (append-nil prefix)

-- ---- the first `count` insns are kept, and further ones are only checked

-- the insns read so far: those kept, and whether there were more
pub record HasRead (count : ℕ) (all rest : List Item) (kept : List Packed) (surplus : Bool) : Type 0 where
  pub prefix : List Packed
  pub reads : with_prefix prefix (insns_of rest) ≡ insns_of all
  pub kept_is : kept ≡ take count prefix
  pub surplus_is : surplus ≡ ltb count (length prefix)

pub none_read : (count : ℕ) (all : List Item) → HasRead count all all [] false
none_read count all = record {
  prefix = [];
  reads = with_front_none (insns_of all);
  kept_is = sym (take_all count [] (omega arith));
  surplus_is = sym (le-ltb count 0 (omega arith));
}

-- fewer insns are kept than the count says: they are all that were read
all_kept : (count : ℕ) (prefix : List Packed) → length (take count prefix) < count → length prefix < count
all_kept count prefix lt = let len = length-take count prefix in omega (arith, lt, len)

pub kept_one : (count : ℕ) (all rest more : List Item) (kept : List Packed) (surplus : Bool) (item : Item) (insn : Packed) → HasRead count all rest kept surplus
    → rest ≡ item ∷ more → packed_of item.0 item.1 ≡ Ok insn → length kept < count → HasRead count all more (kept ++ insn ∷ []) surplus
kept_one count all rest more kept surplus item insn so_far cut h lt =
    let prefix = so_far.prefix in
    let short : length (take count prefix) < count = subst (λ (ws : List Packed). length ws < count) so_far.kept_is lt in
    let few = all_kept count prefix short in
    let longer : length (prefix ++ insn ∷ []) ≡ length prefix + 1 = length-append prefix (insn ∷ []) in
    let same : kept ≡ prefix = so_far.kept_is ∙ take_all count prefix (omega (arith, few)) in
    record {
      prefix = prefix ++ insn ∷ [];
      reads = sym (one_more prefix rest more item insn cut h) ∙ so_far.reads;
      kept_is = ap (λ (ws : List Packed). ws ++ insn ∷ []) same ∙ sym (take_all count (prefix ++ insn ∷ []) (omega (arith, few, longer)));
      surplus_is = so_far.surplus_is ∙ le-ltb count (length prefix) (omega (arith, few)) ∙ sym (le-ltb count (length (prefix ++ insn ∷ [])) (omega (arith, few, longer)));
    }

pub passed_one : (count : ℕ) (all rest more : List Item) (kept : List Packed) (surplus : Bool) (item : Item) (insn : Packed) → HasRead count all rest kept surplus
    → rest ≡ item ∷ more → packed_of item.0 item.1 ≡ Ok insn → count ≤ length kept → HasRead count all more kept true
passed_one count all rest more kept surplus item insn so_far cut h full =
    let prefix = so_far.prefix in
    let long : count ≤ length (take count prefix) = subst (λ (ws : List Packed). count ≤ length ws) so_far.kept_is full in
    let enough : count ≤ length prefix = let len = length-take count prefix in omega (arith, long, len) in
    let longer : length (prefix ++ insn ∷ []) ≡ length prefix + 1 = length-append prefix (insn ∷ []) in
    record {
      prefix = prefix ++ insn ∷ [];
      reads = sym (one_more prefix rest more item insn cut h) ∙ so_far.reads;
      kept_is = so_far.kept_is ∙ sym (take-append-le count prefix (insn ∷ []) enough);
      surplus_is = sym (lt-ltb count (length (prefix ++ insn ∷ [])) (omega (arith, enough, longer)));
    }

-- an instruction has a fault: it is the text's
pub fault_of_one : (end count : ℕ) (all rest more : List Item) (kept : List Packed) (surplus : Bool) (item : Item) (e : NumericFault) → HasRead count all rest kept surplus
    → rest ≡ item ∷ more → packed_of item.0 item.1 ≡ Err e → IsFault e (counted_insns end count all)
unfolding counted_insns
fault_of_one end count all rest more kept surplus item e so_far cut h =
    let stop : insns_of all ≡ Err e = sym so_far.reads ∙ stops_at so_far.prefix rest more item e cut h in
    is_fault e (counted_insns end count all) (rw stop refl)

-- no item is left
at_end : (end count : ℕ) (all rest : List Item) (kept : List Packed) (surplus : Bool) (so_far : HasRead count all rest kept surplus) → rest ≡ []
    → counted_insns end count all ≡ cond (eqb (length so_far.prefix) count) (Ok so_far.prefix) (Err (Count end))
unfolding counted_insns
at_end end count all rest kept surplus so_far none =
    let read : insns_of all ≡ Ok so_far.prefix = sym so_far.reads ∙ all_read so_far.prefix rest none in
    rw read refl

pub more_than_said : (end count : ℕ) (all rest : List Item) (kept : List Packed) (surplus : Bool) → HasRead count all rest kept surplus → rest ≡ []
    → surplus ≡ true → counted_insns end count all ≡ Err (Count end)
more_than_said end count all rest kept surplus so_far none more =
    let many : count < length so_far.prefix = ltb-true count (length so_far.prefix) (sym so_far.surplus_is ∙ more) in
    at_end end count all rest kept surplus so_far none ∙ rw (ne_eqb (length so_far.prefix) count (λ e. omega (arith, e, many))) refl

pub fewer_than_said : (end count : ℕ) (all rest : List Item) (kept : List Packed) (surplus : Bool) → HasRead count all rest kept surplus → rest ≡ []
    → length kept < count → counted_insns end count all ≡ Err (Count end)
fewer_than_said end count all rest kept surplus so_far none lt =
    let few = all_kept count so_far.prefix (subst (λ (ws : List Packed). length ws < count) so_far.kept_is lt) in
    at_end end count all rest kept surplus so_far none ∙ rw (ne_eqb (length so_far.prefix) count (λ e. omega (arith, e, few))) refl

pub as_many_as_said : (end count : ℕ) (all rest : List Item) (kept : List Packed) (surplus : Bool) → HasRead count all rest kept surplus → rest ≡ []
    → surplus ≡ false → count ≤ length kept → counted_insns end count all ≡ Ok kept
as_many_as_said end count all rest kept surplus so_far none no_more enough =
    let prefix = so_far.prefix in
    let few : length prefix ≤ count = ltb-false count (length prefix) (sym so_far.surplus_is ∙ no_more) in
    let same : kept ≡ prefix = so_far.kept_is ∙ take_all count prefix few in
    let many : count ≤ length prefix = subst (λ (ws : List Packed). count ≤ length ws) same enough in
    let equal : length prefix ≡ count = omega (arith, few, many) in
    at_end end count all rest kept surplus so_far none ∙ rw (eq-eqb (length prefix) count equal) (ap (λ (ws : List Packed). Ok ws) (sym same))
