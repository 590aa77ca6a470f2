-- `agreement::lists::zeros_from` meets its contract: numbers joined bit by bit are 0 exactly if each is.
use mathlib.Core.Path.{◌≡◌, ◌∙◌, ap}
use native.Mathlib.Omega.{arith}
use Prim.Native.Nat.{ℕ, min}
use lib.Dec.{eqb}
use lib.ListN.{length, drop}
use Rattle.std.proofs.Common.{rules, take_all, length-drop}
use Rattle.std.specs.Int.Bits.{bit_or}
use Rattle.std.specs.List.{fold}
use Rattle.std.proofs.lemmas.Iterator.{YieldsList-from_slice}
use Rattle.std.proofs.lemmas.Iterator.Consumers.{fold_from_yields_List}
use Rattle.std.proofs.lemmas.List.{drop_min}
use Rattle.agreement.specs.inner.Lists.{all_zero, joined_zeros}
use Rattle.agreement.proofs.lists.zeros_from.Goals as goal

pub returns : goal.returns
returns c =
    let list = c.args.list.now in
    let n = c.args.n in
    let rest : c.iter.result.rest.now ≡ drop (min n (length list)) list =
    c.iter.ensures.rest ∙ take_all _ _ (omega (arith, length-drop c.min.result list)) ∙ ap (λ (k : ℕ). drop k list) c.min.ensures in
    let joined : c.fold.result ≡ fold bit_or 0 (drop (min n (length list)) list) =
    fold_from_yields_List _ bit_or 0 _ c.fold.ensures.ran (YieldsList-from_slice _ rest) (λ a x b q k. search rules) in
    ap (λ (r : ℕ). eqb r 0) joined ∙ joined_zeros 0 (drop (min n (length list)) list) ∙ ap all_zero (drop_min n list)
