use Rattle.naga_words.proofs.types.spelling.+spelling.Goals as goal

pub write_inner_in-returns-in-BindingArray : goal.write_inner_in-returns-in-BindingArray
write_inner_in-returns-in-BindingArray g t c =
    rw c.in-BindingArray.is c.write_array-in-BindingArray.ensures
