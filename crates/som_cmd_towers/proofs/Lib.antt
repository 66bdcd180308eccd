mod Doing
