-- Which old rows of the chains are newer.
use Rattle.std.proofs.Common.{zero, suc, List, [], ◌∷◌, ◌++◌, reverse, sym, ◌∙◌, ap}
use Rattle.std.proofs.lemmas.List.{append-nil, append_assoc, reverse-append}
use Rattle.isp_format.specs.Undo.{OldImage}
use Rattle.isp_undo.specs.Chains.{images_of}
use Rattle.isp_chained.specs.Chained.{images_in}
use Rattle.isp_chained.specs.Laws.{PushingNotes, SlotsStandInOrder, newer_of, older_of}

pub stands_in_order : SlotsStandInOrder
stands_in_order [] slot chain after is = cc
stands_in_order (c ∷ chains) zero chain after is = ap (λ (rest : List OldImage). images_in chains ++ rest) (sym (append-nil (reverse (images_of after))))
stands_in_order (c ∷ chains) (suc slot) chain after is =
    ap (λ (images : List OldImage). images ++ reverse (images_of c)) (stands_in_order chains slot chain after is)
    ∙ append_assoc (newer_of slot chains) (reverse (images_of after) ++ older_of slot chains) (reverse (images_of c))
    ∙ ap (λ (rest : List OldImage). newer_of slot chains ++ rest) (append_assoc (reverse (images_of after)) (older_of slot chains) (reverse (images_of c)))

pub pushing_notes : PushingNotes
pushing_notes chains slot chain after image is images =
    stands_in_order chains slot chain after is
    ∙ ap (λ (mine : List OldImage). newer_of slot chains ++ (mine ++ older_of slot chains)) (ap reverse images ∙ reverse-append (images_of chain) (image ∷ []))
