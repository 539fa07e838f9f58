mod Forgotten
